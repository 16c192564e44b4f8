-- The fields of a text, separated by a space.
use Rattle.std.specs.Prelude.{ℕ, ◌==◌, Bool, List, length, nat_lt, if◌then◌else◌, Option, Some, None}
use Rattle.std.specs.List.{position_or_len, before_first, after_first}

-- byte 32, which separates two fields
abbrev pub is_space : ℕ → Bool
is_space b = b == 32

-- what is before the first space and what is after it, if there is one
abbrev pub at_space : List ℕ → Option (List ℕ × List ℕ)
at_space text =
    if nat_lt (position_or_len is_space text) (length text) then Some (before_first is_space text, after_first is_space text)
    else None
