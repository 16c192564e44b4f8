use Rattle.crawl_run.proofs.Prelude.{flat_map, entries_in, Share}
use Rattle.crawl_run.proofs.WithoutLoss.{run_without_loss}
use Rattle.crawl_run.proofs.laws.nothing_lost_lacks_nothing.Goals as goal

pub returns-clause-whole : goal.returns-clause-whole
returns-clause-whole c = run_without_loss

pub returns-clause-errors : goal.returns-clause-errors
returns-clause-errors c workers allowed meaning seeds shares senders queues some account whole sender among logged =
    c.nothing_lost.ensures allowed seeds (entries_in queues) (flat_map (λ (share : Share). share.found) shares) (run_without_loss workers allowed meaning seeds shares senders queues some account whole sender among logged)
