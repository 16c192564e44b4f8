use Rattle.crawl_frontier.proofs.Prelude.{◌≡◌, ◌<◌, ℕ, true, is_some, nat_cmp, get}
use Rattle.crawl_frontier.proofs.finish.settle.all_there.Given as goal

abbrev pub invariant-loop-queue : goal.invariant-loop-queue
invariant-loop-queue l = (q : ℕ) → q < l.queue-counter → is_some (get nat_cmp l.rights q) ≡ true
