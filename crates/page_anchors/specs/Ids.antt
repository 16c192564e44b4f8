-- Texts one after another in a block, and the position at which each ends.
use Rattle.std.specs.Prelude.{◌≡◌, ℕ, ◌≤◌, List, [], ◌∷◌, map, slice_range}
use Rattle.std.specs.Borrow.{Bor}

-- the texts of the bytes from this position on, which end at these positions
abbrev pub texts_from : List ℕ → ℕ → List ℕ → List (List ℕ)
texts_from bytes from [] = []
texts_from bytes from (end ∷ ends) = slice_range bytes from end ∷ texts_from bytes end ends

-- the ends ascend from this position on, and the last one is the number of bytes
abbrev pub DoBound : ℕ → List ℕ → ℕ → Type 0
DoBound from [] count = from ≡ count
DoBound from (end ∷ ends) count = (from ≤ end) × DoBound end ends count

-- the texts to which the references point
abbrev pub pointed : List (Bor (List ℕ)) → List (List ℕ)
pointed texts = map (λ text. text.now) texts
