-- A hash index of a list: it finds the position of a text in the list.
use Rattle.std.specs.Prelude.{◌≡◌, ◌⊎◌, ℕ, List, length, slice_get, Some}
use Rattle.hash_index.specs.Lists.{AreApart}
use Rattle.hash_index.specs.Slots.{AreTaken, IsInSlots, capacity_with}
use Rattle.hash_index.specs.Overflow.{IsInOverflow}
use Rattle.hash_index.specs.declared.index.HashIndex.{HashIndex}

-- the index is kept for a text with this hash: in a slot of the hash or, if all slots of the hash are taken, in the overflow
abbrev pub IsKept : HashIndex → ℕ → List ℕ → ℕ → Type 0
IsKept table hash text index = IsInSlots table.slots hash index ⊎ ((AreTaken table.slots hash 8) × IsInOverflow table.overflow hash text index)

-- for each text of the list, its index is kept
abbrev pub AreKept : (List ℕ → ℕ) → List (List ℕ) → HashIndex → Type 0
AreKept hash texts table = (index : ℕ) (text : List ℕ) → slice_get texts index ≡ Some text → IsKept table (hash text) text index

-- likewise, and no text is in the list twice
abbrev pub IsIndexOf : (List ℕ → ℕ) → List (List ℕ) → HashIndex → Type 0
IsIndexOf hash texts table = AreApart texts × AreKept hash texts table

-- this hash index with other slots and the same overflow
abbrev pub with_slots : HashIndex → List ℕ → HashIndex
with_slots table slots = record { slots = slots; overflow = table.overflow }

-- the number of texts for which the hash index has slots
abbrev pub capacity_of : HashIndex → ℕ
capacity_of table = capacity_with (length table.slots)
