use Rattle.check_report.proofs.Prelude.{◌≡◌, ◌++◌, flat_map, take}
use Rattle.check_report.specs.Order.{link_of}
use Rattle.check_report.specs.declared.ordered.Link.{Link}
use Rattle.check_report.specs.Junit.{link_case}
use Rattle.check_report.proofs.as_junit.put_cases.Given as goal

abbrev pub invariant-loop-link : goal.invariant-loop-link
invariant-loop-link l = l.out.items ≡ l.fn.out.items ++ flat_map (λ (k : Link). link_case l.folder (link_of k)) (take l.link-index l.links)
