use Rattle.site_check.proofs.Prelude.{◌≡◌, false, take, has_place_in}
use Rattle.site_check.proofs.names.has_place_in.Given as goal

abbrev pub invariant-loop-place : goal.invariant-loop-place
invariant-loop-place l = has_place_in l.file (take l.place-index l.places) ≡ false
