use Rattle.check_report.proofs.Prelude.{Bor, ◌≡◌, map, take}
use Rattle.check_report.specs.declared.ordered.Named.{Named}
use Rattle.check_report.specs.declared.value.Broken.{Broken}
use Rattle.check_report.proofs.ordered.targets_of.Given as goal

abbrev pub invariant-loop-one : goal.invariant-loop-one
invariant-loop-one l = map (λ (t : Bor Broken). t.now) l.all.items ≡ map (λ (n : Named). n.broken.now) (take l.one-index l.named)
