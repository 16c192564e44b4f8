use Rattle.link_fixes.proofs.Prelude.{◌≡◌, false, take, moves_to}
use Rattle.link_fixes.proofs.moves.moves_to.Given as goal

abbrev pub invariant-loop-one : goal.invariant-loop-one
invariant-loop-one l = moves_to (take l.one-index l.moves) l.from l.to ≡ false
