use Rattle.site_check.proofs.Prelude.{◌≡◌, false, take, list_any, fits, string_bytes}
use Rattle.site_check.proofs.file_entries.has_place.Given as goal

abbrev pub invariant-loop-place : goal.invariant-loop-place
invariant-loop-place l = list_any (λ place. fits l.pattern (string_bytes place.file)) (take l.place-index l.places) ≡ false
