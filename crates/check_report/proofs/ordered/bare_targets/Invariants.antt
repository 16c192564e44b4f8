use Rattle.check_report.proofs.Prelude.{Bor, ◌≡◌, flat_map, map, take}
use Rattle.check_report.specs.Order.{bare_of}
use Rattle.check_report.specs.declared.value.Broken.{Broken}
use Rattle.check_report.proofs.ordered.bare_targets.Given as goal

abbrev pub invariant-loop-target : goal.invariant-loop-target
invariant-loop-target l = map (λ (t : Bor Broken). t.now) l.bare.items ≡ flat_map bare_of (map (λ (t : Bor Broken). t.now) (take l.target-index l.targets))
