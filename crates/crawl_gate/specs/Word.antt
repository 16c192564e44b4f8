-- A gate's word: the number of units that are held, and whether the gate is closed.
use Rattle.std.specs.Prelude.{ℕ, ◌+◌, ◌^◌, Bool, true, false}

-- the count, and whether the gate is closed
abbrev pub Word : Type 0
Word = ℕ × Bool

abbrev pub open_at : ℕ → Word
open_at count = (count, false)

abbrev pub closed_at : ℕ → Word
closed_at count = (count, true)

-- the u64 in which only bit 63 is set. Counts are less than it
abbrev pub top_bit : ℕ
top_bit = 2 ^ 63

-- bit 63 is set if the gate is closed
abbrev pub closed_bit : Bool → ℕ
closed_bit true = top_bit
closed_bit false = 0

-- the u64 that represents a word
abbrev pub bits : Word → ℕ
bits x = x.0 + closed_bit x.1
