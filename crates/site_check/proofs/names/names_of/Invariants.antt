use Rattle.site_check.proofs.Prelude.{ℕ, List, take, filter, pages_of, IsKnown, has_name, named_at}
use Rattle.site_check.proofs.names.names_of.Given as goal

abbrev pub invariant-loop-number : goal.invariant-loop-number
invariant-loop-number l = (name : List ℕ) → IsKnown (pages_of l.files) (filter (has_name name) (take l.number (pages_of l.files))) (named_at l.names name)
