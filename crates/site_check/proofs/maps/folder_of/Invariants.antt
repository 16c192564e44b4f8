use Rattle.site_check.proofs.Prelude.{◌≡◌, take}
use Rattle.site_check.proofs.maps.folder_of.Given as goal
use Rattle.site_check.specs.Maps.{map_of}

abbrev pub invariant-loop-map : goal.invariant-loop-map
invariant-loop-map l = l.best ≡ map_of (take l.map-index l.maps) l.url
