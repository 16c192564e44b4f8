use Rattle.site_check.proofs.Prelude.{◌≡◌, map, take}
use Rattle.site_check.proofs.worst.copies.Given as goal
use Rattle.site_check.specs.Worst.{file_links, links_of}

abbrev pub invariant-loop-count : goal.invariant-loop-count
invariant-loop-count l = map file_links l.all.items ≡ map links_of (take l.count-index l.counts)
