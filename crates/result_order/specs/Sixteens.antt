-- Sixteen bytes of a text as a number.
use Rattle.std.specs.Prelude.{◌≡◌, ℕ, zero, suc, ◌<◌, ◌≤◌, List, [], ◌∷◌, slice_index}
use Rattle.std.specs.Int.Digits.{number_from_digits, AllBelowBase}

-- two texts have the same first n bytes; a text that is shorter continues with zeros
abbrev pub BeginAlike : ℕ → List ℕ → List ℕ → Type 0
BeginAlike count a b = (k : ℕ) → k < count → slice_index a k ≡ slice_index b k

-- two texts have the same bytes from one index up to another
abbrev pub AreAlikeWithin : ℕ → ℕ → List ℕ → List ℕ → Type 0
AreAlikeWithin from end a b = (k : ℕ) → from ≤ k → k < end → slice_index a k ≡ slice_index b k

-- n bytes of a text from an index on
abbrev pub bytes_from : List ℕ → ℕ → ℕ → List ℕ
bytes_from text from zero = []
bytes_from text from (suc count) = slice_index text from ∷ bytes_from text (suc from) count

-- the number has sixteen bytes of a text from an index on, the most significant first
pub record IsSixteen (text : List ℕ) (from number : ℕ) : Type 0 where
  pub bytes : AllBelowBase 256 (bytes_from text from 16)
  pub value : number ≡ number_from_digits 256 (bytes_from text from 16)
