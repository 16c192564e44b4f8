-- Flags as numbers, and whether two are the same.
use Rattle.std.specs.Prelude.{ℕ, Bool, true, false, not}

-- 1 if the flag is set, otherwise 0; and whether two flags are equal
abbrev pub one_if : Bool → ℕ
one_if true = 1
one_if false = 0

abbrev pub same_flag : Bool → Bool → Bool
same_flag true b = b
same_flag false b = not b
