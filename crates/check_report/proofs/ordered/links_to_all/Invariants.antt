use Rattle.check_report.proofs.Prelude.{Bor, ◌≡◌, flat_map, map, take}
use Rattle.check_report.specs.Order.{link_of, links_to}
use Rattle.check_report.specs.declared.value.Broken.{Broken}
use Rattle.check_report.proofs.ordered.links_to_all.Given as goal

abbrev pub invariant-loop-target : goal.invariant-loop-target
invariant-loop-target l = map link_of l.links.items ≡ flat_map (λ (t : Bor Broken). links_to l.all t.now) (take l.target-index l.targets)
