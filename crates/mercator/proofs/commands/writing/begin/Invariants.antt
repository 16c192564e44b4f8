use Rattle.mercator.proofs.Prelude.{◌≡◌, ℕ, List, ◌++◌, Appends}
use Rattle.mercator.proofs.commands.writing.begin.Given as goal

abbrev pub invariant-loop-turn : goal.invariant-loop-turn
invariant-loop-turn g l = (front : List ℕ) × (l.bytes ≡ front ++ l.rest) × Appends (g.W.Write.contents l.initial.writer) (g.W.Write.contents l.writer) front
