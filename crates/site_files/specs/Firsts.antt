-- Lists by their keys.
use Rattle.std.specs.Prelude.{ℕ, List, [], ◌∷◌, bytes_eq, if◌then◌else◌}
use Rattle.std.specs.Cmp.Lexicographic.{slice_cmp}
use Rattle.std.specs.Ordering.{nat_cmp}
use Rattle.std.specs.declared.cmp.Ordering.{Ordering}

-- the value of the first with this text as its key, or else another one
abbrev pub first_with : {X V : Type 0} → (X → List ℕ) → (X → V) → V → List X → List ℕ → V
first_with key value none [] text = none
first_with key value none (x ∷ xs) text = if bytes_eq (key x) text then value x else first_with key value none xs text

-- by the bytes of the keys
abbrev pub cmp_keys : {X : Type 0} → (X → List ℕ) → X → X → Ordering
cmp_keys key a b = slice_cmp nat_cmp (key a) (key b)
