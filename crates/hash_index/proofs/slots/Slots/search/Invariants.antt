use Rattle.hash_index.proofs.Prelude.{◌≡◌, ◌<◌, ℕ, false, has_text_at, AreTaken, word_at, word_of}
use Rattle.hash_index.proofs.slots.Slots.search.Given as goal

abbrev pub invariant-loop-number : goal.invariant-loop-number
invariant-loop-number g l =
    (AreTaken l.self l.hash l.number)
    × ((i k : ℕ) → i < l.number → word_at l.self l.hash i ≡ word_of l.hash k → has_text_at (g.L.TextList.texts l.list) k l.text ≡ false)
