use Rattle.site_check.proofs.Prelude.{◌≡◌, flat_map, map, take}
use Rattle.site_check.specs.LackedLinks.{lack_of, lacks_of, links_of}
use Rattle.site_check.proofs.anchors.every_lacked.Given as goal

abbrev pub invariant-loop-own : goal.invariant-loop-own
invariant-loop-own l = map lack_of l.all.items ≡ flat_map lacks_of (map links_of (take l.own-index l.own-items))
