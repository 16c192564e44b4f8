use Rattle.check_report.proofs.Prelude.{ap, link_line, map}
use Rattle.check_report.specs.Order.{link_of}
use Rattle.check_report.specs.declared.ordered.Link.{Link}
use Rattle.check_report.proofs.Adding.{adds_files, adds_same}
use Rattle.check_report.proofs.printing.put_files.Goals as goal

pub returns : goal.returns
returns c =
    adds_files c.args.form c.put_rests.result c.args.out.now.items c.put_links.new.out.items c.put_bare.new.out.items c.put_rests.new.out.items c.args.all c.args.targets.now c.in_ok-links.links.items c.in_ok-links.ensures
    (adds_same c.args.form c.args.out.now.items c.put_links.new.out.items _ _ (ap (map (λ (l : Link). link_line (link_of l))) c.as_slice.ensures.value) c.in_ok-put_links.ensures)
    c.in_ok-put_bare.ensures c.put_rests.ensures
