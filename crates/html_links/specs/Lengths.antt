-- Names by their first letter and length.
use Rattle.std.specs.Prelude.{ℕ, ◌%◌, ◌/◌, ◌^◌, ◌==◌, ◌&&◌, nat_lt, Bool, true, List, [], ◌∷◌, length, slice_index}

-- a table has, for the last five bits of a letter, the lengths of the names without that letter, each as a bit
abbrev pub has_length : List ℕ → ℕ → ℕ → Bool
has_length lengths letter more = nat_lt more 16 && ((slice_index lengths letter / 2 ^ more) % 2 == 1)

-- a name may be one of those whose lengths are in a table; an empty name always may
abbrev pub may_be : List ℕ → List ℕ → Bool
may_be lengths [] = true
may_be lengths (first ∷ rest) = has_length lengths (first % 32) (length rest)
