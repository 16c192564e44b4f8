use Rattle.link_offers.proofs.Prelude.{ℕ, List, Logged, AllKnown}
use Rattle.link_offers.proofs.recent.empty_slots.Given as goal

abbrev pub invariant-loop : goal.invariant-loop
invariant-loop l = (workers : ℕ) (log : List Logged) → AllKnown workers log l.slots.items
