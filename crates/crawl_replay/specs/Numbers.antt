-- Numbers as they are written in scripts.
use Rattle.std.specs.Prelude.{ℕ, ◌^◌, Bool, ◌&&◌, not, List, length, nat_eq, nat_lt, nat_le, if◌then◌else◌, Option, Some, None}
use Rattle.std.specs.List.{list_all}
use Rattle.std.specs.Char.{is_ascii_digit}
use Rattle.std.specs.Str.Parse.{digits_value}
use Rattle.crawl_replay.specs.Limits.{most_digits}

-- the text has at least one digit, at most the limit, and nothing else
abbrev pub is_number : List ℕ → Bool
is_number text = not (nat_eq (length text) 0) && nat_le (length text) most_digits && list_all is_ascii_digit text

-- the value of a number that fits this number of bits
abbrev pub number_of : ℕ → List ℕ → Option ℕ
number_of bits text =
    if is_number text && nat_lt (digits_value 10 text) (2 ^ bits) then Some (digits_value 10 text) else None
