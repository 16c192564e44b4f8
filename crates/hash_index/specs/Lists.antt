-- Lists of texts, and the index of a text.
use Rattle.std.specs.Prelude.{◌≡◌, ℕ, suc, Bool, false, List, [], ◌∷◌, slice_get, Option, Some, None, if◌then◌else◌, option_map, bytes_eq}

-- the index at which the text is first in the list, if it is in it
abbrev pub index_of : List (List ℕ) → List ℕ → Option ℕ
index_of [] key = None
index_of (text ∷ more) key = if bytes_eq text key then Some 0 else option_map suc (index_of more key)

-- there is a text, and it is this one
abbrev pub is_this : Option (List ℕ) → List ℕ → Bool
is_this None key = false
is_this (Some text) key = bytes_eq text key

-- the text at the index is this one
abbrev pub has_text_at : List (List ℕ) → ℕ → List ℕ → Bool
has_text_at texts index key = is_this (slice_get texts index) key

-- no text is at two indices
abbrev pub AreApart : List (List ℕ) → Type 0
AreApart texts = (i k : ℕ) (text : List ℕ) → slice_get texts i ≡ Some text → slice_get texts k ≡ Some text → i ≡ k
