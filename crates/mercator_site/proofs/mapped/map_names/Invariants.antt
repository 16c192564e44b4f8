use Rattle.mercator_site.proofs.Prelude.{◌≡◌, map, take}
use Rattle.mercator_site.proofs.mapped.map_names.Given as goal

abbrev pub invariant-loop-map : goal.invariant-loop-map
invariant-loop-map g l = map (λ one. one.map.now) l.all.items ≡ take l.map-index l.maps
