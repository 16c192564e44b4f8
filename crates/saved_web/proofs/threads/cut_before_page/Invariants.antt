use Rattle.std.proofs.Common.{◌≤◌, ◌-◌, length}
use Rattle.saved_web.proofs.threads.cut_before_page.Given as goal

abbrev pub invariant-loop-front : goal.invariant-loop-front
invariant-loop-front l = l.from ≤ length l.bytes

abbrev pub decreases-loop-front : goal.decreases-loop-front
decreases-loop-front l = length l.bytes - l.from
