use Rattle.mercator_site.proofs.Prelude.{map, string_bytes, take}
use Rattle.mercator_site.specs.Maps.{AreMapsAt}
use Rattle.mercator_site.proofs.maps.maps_at.Given as goal

abbrev pub invariant-loop-text : goal.invariant-loop-text
invariant-loop-text l = AreMapsAt l.top l.rooted (map string_bytes (take l.text-index l.texts)) l.maps.items
