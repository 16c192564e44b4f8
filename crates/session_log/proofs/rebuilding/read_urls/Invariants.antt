use Rattle.std.proofs.Common.{◌-◌}
use Rattle.session_log.proofs.Rebuilds.{Reads}
use Rattle.session_log.proofs.rebuilding.read_urls.Given as goal

abbrev pub invariant-loop-inventory : goal.invariant-loop-inventory
invariant-loop-inventory g l = Reads l.initial.session l.inventory l.session

abbrev pub decreases-loop-inventory : goal.decreases-loop-inventory
decreases-loop-inventory g l = l.lines.end - l.lines.at
