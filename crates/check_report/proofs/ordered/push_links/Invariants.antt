use Rattle.check_report.proofs.Prelude.{Bor, ◌≡◌, ◌++◌, map, take}
use Rattle.check_report.specs.Order.{link_of}
use Rattle.check_report.specs.declared.value.Place.{Place}
use Rattle.check_report.proofs.ordered.push_links.Given as goal

abbrev pub invariant-loop-place : goal.invariant-loop-place
invariant-loop-place l = map link_of l.links.items ≡ map link_of l.fn.links.items ++ map (λ (p : Bor Place). (l.target, p.now)) (take l.place-index l.shown)
