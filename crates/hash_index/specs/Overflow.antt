-- The indices of texts whose hash has no vacant slot.
use Rattle.std.specs.Prelude.{◌≡◌, ◌⊎◌, ℕ, List, Some}
use Rattle.std.specs.BTreeMap.{get, get_by_text}
use Rattle.std.specs.Ordering.{nat_cmp}
use Rattle.hash_index.specs.declared.overflow.Overflow.{Overflow}

-- this index is kept for the hash, or another is kept for the hash and this one for the text
abbrev pub IsInOverflow : Overflow → ℕ → List ℕ → ℕ → Type 0
IsInOverflow overflow hash text index =
    (first : ℕ) × (get nat_cmp overflow.by_hash hash ≡ Some first) × ((first ≡ index) ⊎ (get_by_text overflow.by_text text ≡ Some index))
