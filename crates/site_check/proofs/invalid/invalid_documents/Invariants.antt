use Rattle.site_check.proofs.Prelude.{◌≡◌, ℕ, List, take, invalid_at, invalid_in}
use Rattle.site_check.proofs.invalid.invalid_documents.Given as goal

abbrev pub invariant-loop-one : goal.invariant-loop-one
invariant-loop-one l = (url : List ℕ) → invalid_at l.documents url ≡ invalid_in (take l.one-index l.places) url
