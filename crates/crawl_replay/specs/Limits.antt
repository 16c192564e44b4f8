-- The limit of a script's numbers.
use Rattle.std.specs.Prelude.{ℕ}

-- the greatest number of digits
abbrev pub most_digits : ℕ
most_digits = 20
