use Rattle.site_check.proofs.Prelude.{◌≡◌, ℕ, List, take, indices_at, indices_in}
use Rattle.site_check.proofs.leads.link_indices.Given as goal

abbrev pub invariant-loop-one : goal.invariant-loop-one
invariant-loop-one l = (url : List ℕ) → indices_at l.indices url ≡ indices_in (take l.one-index l.places) url
