-- The beginning of a link's text that leads to the same URL as the whole text.
use Rattle.std.specs.Prelude.{ℕ, Bool, ◌-◌, ◌==◌, nat_lt, List, length, slice_index, if◌then◌else◌}
use Rattle.std.specs.List.{before_first}
use Rattle.url.specs.Ascii.{number_sign, space}

-- the byte that begins a fragment
abbrev pub is_number_sign : ℕ → Bool
is_number_sign b = b == number_sign

-- the parser trims nothing at the end of the text
abbrev pub ends_visibly : List ℕ → Bool
ends_visibly text = nat_lt space (slice_index text (length text - 1))

-- The text before its fragment. If the end of that would be trimmed, or if it is empty, the text stays whole: `a #f` leads to
-- `a%20`, but `a ` leads to `a`.
abbrev pub before_fragment : List ℕ → List ℕ
before_fragment text =
    let front = before_first is_number_sign text in
    if ends_visibly front then front else text
