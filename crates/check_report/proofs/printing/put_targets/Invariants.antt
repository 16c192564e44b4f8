use Rattle.check_report.proofs.Prelude.{Bor, take, flat_map, Adds, target_lines}
use Rattle.check_report.specs.declared.value.Broken.{Broken}
use Rattle.check_report.proofs.printing.put_targets.Given as goal

abbrev pub invariant-loop-target : goal.invariant-loop-target
invariant-loop-target l = Adds l.form l.fn.out.items l.out.items (flat_map (λ (t : Bor Broken). target_lines l.view t.now) (take l.target-index l.targets))
