use Rattle.std.proofs.Common.{◌-◌}
use Rattle.session_log.specs.Lists.{ListsLines}
use Rattle.session_log.proofs.listing.give_lines.Given as goal

abbrev pub invariant-loop-session : goal.invariant-loop-session
invariant-loop-session g l = ListsLines l.lister.form l.initial.session (g.O.Write.contents l.initial.out) (g.O.Write.contents l.out) l.session

abbrev pub decreases-loop-session : goal.decreases-loop-session
decreases-loop-session g l = l.lines.end - l.lines.at
