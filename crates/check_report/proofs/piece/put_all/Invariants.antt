use Rattle.check_report.proofs.Prelude.{◌≡◌, ◌++◌, flat_map, take}
use Rattle.check_report.specs.Pieces.{piece_text}
use Rattle.check_report.proofs.piece.put_all.Given as goal

abbrev pub invariant-loop-piece : goal.invariant-loop-piece
invariant-loop-piece l = l.out.items ≡ l.fn.out.items ++ flat_map piece_text (take l.piece-index l.pieces)
