use Rattle.std.proofs.Common.{length}
use Rattle.session_log.specs.Compaction.{summing}
use Rattle.session_log.proofs.Rebuilds.{InFront}
use Rattle.session_log.proofs.rebuilding.append_pieces.Given as goal

abbrev pub invariant-loop-rest : goal.invariant-loop-rest
invariant-loop-rest g l = InFront l.text l.rest (summing l.initial.new.frame.sum (g.O.Write.contents l.initial.new.file)) (summing l.new.frame.sum (g.O.Write.contents l.new.file))

abbrev pub decreases-loop-rest : goal.decreases-loop-rest
decreases-loop-rest g l = length l.rest
