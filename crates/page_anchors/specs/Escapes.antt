-- The bytes that a URL's parser escapes in a fragment.
use Rattle.std.specs.Prelude.{ℕ, ◌==◌, Bool, ◌||◌, nat_lt}

-- a control byte, a space, one of " < > `, delete, or a byte beyond ASCII
abbrev pub is_escaped : ℕ → Bool
is_escaped b = nat_lt b 33 || (b == 34) || (b == 60) || (b == 62) || (b == 96) || nat_lt 126 b

-- the byte is escaped, or begins an escape or a directive
abbrev pub is_odd : ℕ → Bool
is_odd b = is_escaped b || (b == 37) || (b == 58)
