use Rattle.site_check.proofs.Prelude.{◌≡◌, ◌++◌, map}
use Rattle.site_check.specs.LackedLinks.{lack_of, lacks_from, links_of}
use Rattle.site_check.proofs.anchors.push_lacked.Given as goal

abbrev pub invariant-loop-index : goal.invariant-loop-index
invariant-loop-index l = map lack_of l.all.items ≡ map lack_of l.initial.all.items ++ lacks_from (links_of l.links) l.begin l.index
