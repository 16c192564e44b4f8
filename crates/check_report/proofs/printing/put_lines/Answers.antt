use Rattle.check_report.proofs.Prelude.{Adds, Bor, OnOk, map, refl, subst, sym}
use Rattle.check_report.specs.Rows.{lines_in}
use Rattle.check_report.specs.declared.value.Broken.{Broken}
use Rattle.check_report.specs.declared.view.Order.{Order}
use Rattle.check_report.proofs.Adding.{adds_targets}
use Rattle.check_report.proofs.printing.put_lines.Goals as goal

pub returns-in-Given : goal.returns-in-Given
returns-in-Given c =
    let of = λ (t : Bor Broken). t.now in
    subst (λ (o : Order). OnOk c.put_targets.result (Adds c.args.form c.args.out.now.items c.put_targets.new.out.items (lines_in o c.args.view (map of c.args.targets.now)))) (sym c.in-Given.is)
    (adds_targets c.args.form c.put_targets.result c.args.out.now.items c.put_targets.new.out.items c.args.view (map of c.args.targets.now) c.args.targets.now refl c.put_targets.ensures)

pub returns-in-Target : goal.returns-in-Target
returns-in-Target c =
    let of = λ (t : Bor Broken). t.now in
    subst (λ (o : Order). OnOk c.put_targets-in-Target.result (Adds c.args.form c.args.out.now.items c.put_targets-in-Target.new.out.items (lines_in o c.args.view (map of c.args.targets.now)))) (sym c.in-Target.is)
    (adds_targets c.args.form c.put_targets-in-Target.result c.args.out.now.items c.put_targets-in-Target.new.out.items c.args.view (map of c.args.targets.now) c.args.targets.now refl c.put_targets-in-Target.ensures)
