use Rattle.mercator_site.proofs.Prelude.{map, take}
use Rattle.mercator_site.specs.Maps.{AreMapped}
use Rattle.mercator_site.proofs.mapped.mapped_folders.Given as goal

abbrev pub invariant-loop-one : goal.invariant-loop-one
invariant-loop-one l = AreMapped l.rules (map (λ one. one.map.now) (take l.one-index l.maps)) l.all.items
