-- Texts of paths and queries that the parser of URLs leaves unchanged.
use Rattle.std.specs.Prelude.{ℕ, Bool, true, not, ◌&&◌, ◌||◌, ◌==◌, nat_le, nat_lt, List, [], ◌∷◌, take, drop, slice_index, if◌then◌else◌}
use Rattle.std.specs.List.{list_all, prefix_len}
use Rattle.url.specs.Ascii.{backslash, dot, hyphen, percent_sign, question_mark, slash, space}
use Rattle.url.specs.Input.{rsplit_once}

-- one of `"`, `#`, `'`, `<`, `>`, `\`, `^`, the backtick, `{` and `}`. The parser escapes these bytes in a path or a query, reads
-- them as a slash, or ends the path or query at them
abbrev pub is_mark : ℕ → Bool
is_mark b = b == 34 || b == 35 || b == 39 || b == 60 || b == 62 || b == backslash || b == 94 || b == 96 || b == 123 || b == 125

-- a path and a query keep the byte unchanged
abbrev pub is_kept : ℕ → Bool
is_kept b = nat_lt space b && nat_lt b 127 && not (is_mark b)

-- the byte is kept, and a segment that begins with it is neither empty nor a dot segment
abbrev pub may_begin : ℕ → Bool
may_begin b = is_kept b && not (b == slash || b == dot || b == percent_sign)

-- the byte is kept, and after a slash it may begin a segment
abbrev pub may_follow : ℕ → ℕ → Bool
may_follow last b = if last == slash then may_begin b else is_kept b

-- up to the first `?`, each byte of the text may follow the one before it, and the first one may follow this byte; after the `?`,
-- each byte is kept
abbrev pub is_plain : ℕ → List ℕ → Bool
is_plain last [] = true
is_plain last (b ∷ text) = may_follow last b && (if b == question_mark then list_all is_kept text else is_plain b text)

-- `a` to `z`
abbrev pub is_lower : ℕ → Bool
is_lower b = nat_le 97 b && nat_le b 122

-- a domain keeps the byte unchanged
abbrev pub is_host_byte : ℕ → Bool
is_host_byte b = is_lower b || nat_le 48 b && nat_le b 57 || b == hyphen || b == dot || b == 95

-- the text after the last dot
abbrev pub last_label : List ℕ → List ℕ
last_label host = (rsplit_once dot host).1

-- the last label begins with a letter, so the host is not an IPv4 address
abbrev pub is_named : List ℕ → Bool
is_named host = is_lower (slice_index (last_label host) 0)

-- the length of the host with which the text begins
abbrev pub host_len : List ℕ → ℕ
host_len text = prefix_len is_host_byte text

-- the text begins with a slash
abbrev pub first_is_slash : List ℕ → Bool
first_is_slash text = slice_index text 0 == slash

-- the text after a scheme and its slashes is a named host, then a path that begins with a slash, and possibly a query
abbrev pub is_plain_host : List ℕ → Bool
is_plain_host text =
    first_is_slash (drop (host_len text) text) && is_named (take (host_len text) text)
    && is_plain 0 (drop (host_len text) text)

-- the byte is not this one
abbrev pub is_other : ℕ → ℕ → Bool
is_other mark b = not (b == mark)
