use Rattle.check_report.proofs.Prelude.{arith}
use Rattle.check_report.proofs.Adding.{pieces_put}
use Rattle.check_report.proofs.piece.put_all.Goals as goal

pub returns : goal.returns
returns c = pieces_put c.args.out.now.items c.loop-piece.out.items c.args.pieces.now c.loop-piece.piece-index (omega arith) c.loop-piece.invariant
