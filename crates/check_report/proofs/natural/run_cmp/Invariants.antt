use Rattle.check_report.proofs.Prelude.{◌≡◌, length}
use Rattle.std.specs.Cmp.Lexicographic.{slice_cmp}
use Rattle.std.specs.Ordering.{nat_cmp}
use Rattle.check_report.specs.Natural.{runs_of}
use Rattle.check_report.proofs.natural.run_cmp.Given as goal

abbrev pub decreases-runs : goal.decreases-runs
decreases-runs l = length l.left

-- the runs that were passed are the same
abbrev pub invariant-runs : goal.invariant-runs
invariant-runs l = slice_cmp nat_cmp (runs_of l.left) (runs_of l.right) ≡ slice_cmp nat_cmp (runs_of l.a) (runs_of l.b)
