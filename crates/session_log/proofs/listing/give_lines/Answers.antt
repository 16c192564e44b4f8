use Rattle.session_log.proofs.Logs.{lists_more, lists_none}
use Rattle.session_log.proofs.listing.give_lines.Goals as goal

pub loop-session-init : goal.loop-session-init
loop-session-init g c = lists_none _ _ _

pub loop-session-preserved : goal.loop-session-preserved
loop-session-preserved g c = lists_more _ _ _ _ _ _ _ _ c.loop-session.invariant c.in_ok-done.ensures
