use Rattle.std.proofs.Common.{◌-◌}
use Rattle.session_log.proofs.Logs.{Checks}
use Rattle.session_log.proofs.lines.checked_sum.Given as goal

abbrev pub invariant-loop-lines : goal.invariant-loop-lines
invariant-loop-lines g l = Checks l.check

abbrev pub decreases-loop-lines : goal.decreases-loop-lines
decreases-loop-lines g l = l.lines.end - l.lines.at
