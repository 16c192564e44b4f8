use Rattle.check_report.proofs.Prelude.{Bor, arith, flat_map, target_lines}
use Rattle.check_report.specs.declared.value.Broken.{Broken}
use Rattle.check_report.proofs.Adding.{rows_all, rows_more}
use Rattle.check_report.proofs.printing.put_targets.Goals as goal

pub loop-target-preserved : goal.loop-target-preserved
loop-target-preserved c =
    rows_more c.args.form (λ (t : Bor Broken). target_lines c.args.view t.now) c.args.out.now.items c.loop-target.out.items c.put_target.new.out.items c.args.targets.now c.loop-target.target-index c.target-item.result c.loop-target-test.true c.target-item.is c.loop-target.invariant
    c.in_ok-put_target.ensures

pub returns : goal.returns
returns c = rows_all c.args.form (flat_map (λ (t : Bor Broken). target_lines c.args.view t.now)) c.args.out.now.items c.loop-target.out.items c.args.targets.now c.loop-target.target-index (omega arith) c.loop-target.invariant
