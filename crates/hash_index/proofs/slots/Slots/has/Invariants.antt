use Rattle.hash_index.proofs.Prelude.{◌≢◌, ◌<◌, ℕ, word_at, word_of}
use Rattle.hash_index.proofs.slots.Slots.has.Given as goal

abbrev pub invariant-loop-number : goal.invariant-loop-number
invariant-loop-number l = (i : ℕ) → i < l.number → word_at l.self l.hash i ≢ word_of l.hash l.index
