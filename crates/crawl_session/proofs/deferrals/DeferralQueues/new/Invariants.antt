use Rattle.crawl_session.proofs.Prelude.{◌≡◌, replicate, no_deferrals}
use Rattle.crawl_session.proofs.deferrals.DeferralQueues.new.Given as goal

abbrev pub invariant-loop-made : goal.invariant-loop-made
invariant-loop-made l = l.queues.items ≡ replicate l._made no_deferrals
