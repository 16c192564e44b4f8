-- The natural order of texts, in which `page-2` is before `page-10`.
use Rattle.std.specs.Prelude.{ℕ, ◌+◌, ◌-◌, ◌*◌, ◌==◌, Bool, List, [], ◌∷◌, drop, if◌then◌else◌, Option, None, Some}
use Rattle.std.specs.Cmp.Lexicographic.{slice_cmp}
use Rattle.std.specs.Int.{is_in_range}
use Rattle.std.specs.List.{prefix_len}
use Rattle.std.specs.Ordering.{nat_cmp, ordering_then}
use Rattle.std.specs.declared.cmp.Ordering.{Ordering}

-- an ASCII digit
abbrev pub is_digit : ℕ → Bool
is_digit b = is_in_range 48 57 b

-- the number with these digits, after the digits of the number so far
abbrev pub number_from : ℕ → List ℕ → ℕ
number_from n [] = n
number_from n (b ∷ bs) = number_from (n * 10 + (b - 48)) bs

-- a text as numbers: each byte, but in place of a run of digits a 48 and the number with these digits, of any size. In a run the
-- argument is the number so far
abbrev pub runs_from : Option ℕ → List ℕ → List ℕ
runs_from None [] = []
runs_from None (b ∷ bs) = if is_digit b then 48 ∷ runs_from (Some (b - 48)) bs else b ∷ runs_from None bs
runs_from (Some n) [] = n ∷ []
runs_from (Some n) (b ∷ bs) = if is_digit b then runs_from (Some (n * 10 + (b - 48))) bs else n ∷ b ∷ runs_from None bs

abbrev pub runs_of : List ℕ → List ℕ
runs_of text = runs_from None text

-- two texts by their runs; if these are the same, by their bytes
abbrev pub natural_cmp : List ℕ → List ℕ → Ordering
natural_cmp a b = ordering_then (slice_cmp nat_cmp (runs_of a) (runs_of b)) (slice_cmp nat_cmp a b)

-- ---- how they are read

abbrev pub is_zero : ℕ → Bool
is_zero b = b == 48

-- the text after its first run, which is its digits or a byte
abbrev pub after_run : List ℕ → List ℕ
after_run [] = []
after_run (b ∷ bs) = if is_digit b then drop (prefix_len is_digit bs) bs else bs
