use Rattle.check_report.proofs.Prelude.{Bor}
use Rattle.check_report.specs.Junit.{bare_case}
use Rattle.check_report.specs.declared.value.Broken.{Broken}
use Rattle.check_report.proofs.Adding.{flat_more}
use Rattle.check_report.proofs.as_junit.put_bare_cases.Goals as goal

pub loop-target-preserved : goal.loop-target-preserved
loop-target-preserved c =
    flat_more (λ (t : Bor Broken). bare_case t.now) c.args.out.now.items c.loop-target.out.items c.put_bare_case.new.out.items c.args.targets.now c.loop-target.target-index c.target-item.result c.loop-target-test.true
    c.target-item.is c.loop-target.invariant c.in_ok-put_bare_case.ensures
