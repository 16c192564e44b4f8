use Rattle.site_check.proofs.Prelude.{◌≡◌, ◌++◌, map, pointed, string_bytes, take}
use Rattle.site_check.proofs.worst.push_files.Given as goal

abbrev pub invariant-loop-place : goal.invariant-loop-place
invariant-loop-place l = pointed l.files.items ≡ pointed l.initial.files.items ++ map (λ place. string_bytes place.file) (take l.place-index l.places)
