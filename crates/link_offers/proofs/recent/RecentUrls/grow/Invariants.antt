use Rattle.link_offers.proofs.Prelude.{ℕ, List, vec_len, Logged, AllKnown, Knows}
use Rattle.link_offers.proofs.recent.RecentUrls.grow.Given as goal

abbrev pub invariant-loop-slot : goal.invariant-loop-slot
invariant-loop-slot l = (workers : ℕ) (log : List Logged) → AllKnown workers log l.fn.self.slots.items → AllKnown workers log l.old.items × Knows workers log l.self

abbrev pub decreases-loop-slot : goal.decreases-loop-slot
decreases-loop-slot l = vec_len l.old
