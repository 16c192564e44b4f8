use Rattle.site_check.proofs.Prelude.{ℕ, List, take, filter, pages_of, IsKnown}
use Rattle.site_check.specs.Names.{has_key, lower_at}
use Rattle.site_check.proofs.names.lower_keys_of.Given as goal

abbrev pub invariant-loop-number : goal.invariant-loop-number
invariant-loop-number l = (text : List ℕ) → IsKnown (pages_of l.files) (filter (has_key l.key text) (take l.number (pages_of l.files))) (lower_at l.keys text)
