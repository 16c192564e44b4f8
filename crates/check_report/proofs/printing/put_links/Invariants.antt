use Rattle.check_report.proofs.Prelude.{take, map, Adds, link_line}
use Rattle.check_report.specs.Order.{link_of}
use Rattle.check_report.specs.declared.ordered.Link.{Link}
use Rattle.check_report.proofs.printing.put_links.Given as goal

abbrev pub invariant-loop-link : goal.invariant-loop-link
invariant-loop-link l = Adds l.form l.fn.out.items l.out.items (map (λ (k : Link). link_line (link_of k)) (take l.link-index l.links))
