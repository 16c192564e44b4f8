use Rattle.check_report.proofs.Prelude.{Bor, ◌≡◌, ◌++◌, flat_map, take}
use Rattle.check_report.specs.declared.value.Broken.{Broken}
use Rattle.check_report.specs.Junit.{bare_case}
use Rattle.check_report.proofs.as_junit.put_bare_cases.Given as goal

abbrev pub invariant-loop-target : goal.invariant-loop-target
invariant-loop-target l = l.out.items ≡ l.fn.out.items ++ flat_map (λ (t : Bor Broken). bare_case t.now) (take l.target-index l.targets)
