use Rattle.session_log.proofs.Logs.{right_sum}
use Rattle.session_log.proofs.lines.checked_sum.Goals as goal

pub returns-clause-right : goal.returns-clause-right
returns-clause-right g c = rw c.into_sum.ensures (right_sum c.loop-lines.check c.loop-lines.invariant)
