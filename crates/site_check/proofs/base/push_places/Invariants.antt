use Rattle.site_check.proofs.Prelude.{◌≡◌, ◌++◌, flat_map, place_path, pointed, take}
use Rattle.site_check.proofs.base.push_places.Given as goal

abbrev pub invariant-loop-place : goal.invariant-loop-place
invariant-loop-place l = pointed l.paths.items ≡ pointed l.initial.paths.items ++ flat_map (place_path l.path) (take l.place-index l.places)
