-- A table of slots. A hash has a bucket of eight. A taken slot has an index, combined with the mark of a hash.
use Rattle.std.specs.Prelude.{◌≡◌, ◌≢◌, ◌<◌, ◌-◌, ◌/◌, ◌+◌, ℕ, Bool, false, List, length, get_or, bit_and, bit_xor}
use Rattle.std.specs.Int.{div_ceil}

-- the word that is read past the end of the table
abbrev pub no_slot : ℕ
no_slot = 4294967295

-- the position in the table of a hash's slot, by its number in the bucket
abbrev pub slot_of : List ℕ → ℕ → ℕ → ℕ
slot_of slots hash number = bit_xor (bit_and hash (length slots - 1)) number

-- the word in a slot of the hash: 0 if the slot is vacant
abbrev pub word_at : List ℕ → ℕ → ℕ → ℕ
word_at slots hash number = get_or slots (slot_of slots hash number) no_slot

-- the upper 31 bits of a hash
abbrev pub mark_of : ℕ → ℕ
mark_of hash = hash / 8589934592

-- the word in a slot of the hash that has this index
abbrev pub word_of : ℕ → ℕ → ℕ
word_of hash index = bit_xor (mark_of hash) index + 1

-- the first n slots of the hash are taken
abbrev pub AreTaken : List ℕ → ℕ → ℕ → Type 0
AreTaken slots hash count = (number : ℕ) → number < count → word_at slots hash number ≢ 0

-- the slot with this number is the hash's first vacant one
abbrev pub IsFirstVacant : List ℕ → ℕ → ℕ → Type 0
IsFirstVacant slots hash slot = (number : ℕ) × (number < 8) × (AreTaken slots hash number) × (slot ≡ slot_of slots hash number) × (word_at slots hash number ≡ 0)

-- a slot of the hash has the index, and the slots before it are taken
abbrev pub IsInSlots : List ℕ → ℕ → ℕ → Type 0
IsInSlots slots hash index = (number : ℕ) × (number < 8) × (AreTaken slots hash number) × (word_at slots hash number ≡ word_of hash index)

-- no slot of the hash has an index that passes
abbrev pub Misses : (ℕ → Bool) → List ℕ → ℕ → Type 0
Misses passes slots hash = (index : ℕ) → IsInSlots slots hash index → passes index ≡ false

-- the number of texts for which n slots suffice: two thirds of n
abbrev pub capacity_with : ℕ → ℕ
capacity_with slots = slots - div_ceil slots 3
