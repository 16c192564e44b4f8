use Rattle.check_report.proofs.Prelude.{Bor, ap, map, ◌∙◌}
use Rattle.check_report.specs.Rows.{lines_in}
use Rattle.check_report.specs.declared.value.Broken.{Broken}
use Rattle.check_report.proofs.Adding.{then_same}
use Rattle.check_report.proofs.printing.put_ordered.Goals as goal

pub returns : goal.returns
returns c =
    then_same c.args.form c.put_lines.result c.args.out.now.items c.put_lines.new.out.items _ _
    (ap (lines_in c.args.view.order c.args.view) (ap (map (λ (t : Bor Broken). t.now)) c.as_slice.ensures.value ∙ c.in_ok-ordered.ensures)) c.put_lines.ensures
