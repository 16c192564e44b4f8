use Rattle.check_report.proofs.Prelude.{◌≡◌, map, take}
use Rattle.std.specs.List.{All}
use Rattle.check_report.specs.declared.ordered.Named.{Named}
use Rattle.check_report.proofs.Sorting.{IsNamed}
use Rattle.check_report.proofs.ordered.with_names.Given as goal

abbrev pub invariant-loop-broken : goal.invariant-loop-broken
invariant-loop-broken l = record {
  targets : map (λ (n : Named). n.broken.now) l.all.items ≡ take l.broken-index l.targets;
  names : All IsNamed l.all.items;
}
