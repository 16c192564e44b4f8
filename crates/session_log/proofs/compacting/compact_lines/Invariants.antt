use Rattle.std.proofs.Common.{◌-◌}
use Rattle.session_log.specs.Compaction.{Compacted, summing}
use Rattle.session_log.proofs.compacting.compact_lines.Given as goal

abbrev pub invariant-loop-compactor : goal.invariant-loop-compactor
invariant-loop-compactor g l =
    Compacted l.initial.compactor l.initial.session l.compactor l.session (summing l.initial.new.frame.sum (g.O.Write.contents l.initial.new.file)) (summing l.new.frame.sum (g.O.Write.contents l.new.file))

abbrev pub decreases-loop-compactor : goal.decreases-loop-compactor
decreases-loop-compactor g l = l.lines.end - l.lines.at
