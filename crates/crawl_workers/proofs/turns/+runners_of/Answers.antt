use Rattle.crawl_workers.proofs.Outcomes.{progress_none}
use Rattle.crawl_workers.proofs.Turning.{all_go_push}
use Rattle.crawl_workers.proofs.turns.+runners_of.Goals as goal

pub returns-clause-ran : goal.returns-clause-ran
returns-clause-ran g t c = λ allowed meaning.
    let new = c.new.ensures in
    rw (c.push_reserved.ensures.items, c.in-Some.ensures.items)
    (all_go_push g.K.Name.workers allowed meaning c.pop.new.self.items c.runners_of-runners.result.items c.in-Some.worker _ (c.runners_of-runners.ensures.ran allowed meaning)
    (progress_none g.K.Name.workers allowed meaning c.in-Some.worker c.new.result new.nothing.0 new.nothing.1 (new.recent g.K.Name.workers _)))
