use Rattle.crawl_frontier.proofs.Prelude.{◌<◌, ℕ, None, At}
use Rattle.crawl_frontier.proofs.finish.settle.first_doubt.Given as goal

abbrev pub invariant-loop-queue : goal.invariant-loop-queue
invariant-loop-queue l = (q : ℕ) → q < l.queue → At l.doubts q None
