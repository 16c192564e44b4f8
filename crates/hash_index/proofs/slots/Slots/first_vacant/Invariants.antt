use Rattle.hash_index.specs.Slots.{AreTaken}
use Rattle.hash_index.proofs.slots.Slots.first_vacant.Given as goal

abbrev pub invariant-loop-number : goal.invariant-loop-number
invariant-loop-number l = AreTaken l.self l.hash l.number
