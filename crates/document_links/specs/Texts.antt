-- Texts that fit in one line of a saved web.
use Rattle.std.specs.Prelude.{ℕ, ◌+◌, ◌==◌, Bool, not, ◌&&◌, ◌||◌, List, length, nat_le, nat_lt}
use Rattle.std.specs.Str.{is_utf8}
use Rattle.std.specs.List.{list_all}
use Rattle.crawl_limits.specs.Limits.{line_limit}

-- the byte does not end a line: it is neither LF nor CR
abbrev pub is_inner : ℕ → Bool
is_inner b = not (b == 10 || b == 13)

-- the byte is a visible character of ASCII, and not a colon
abbrev pub is_plain : ℕ → Bool
is_plain b = nat_lt 32 b && (nat_lt b 127 && not (b == 58))

-- after `front` bytes the text fits in one line: it is short enough, UTF-8, and has no line break
abbrev pub fits : ℕ → List ℕ → Bool
fits front text = nat_le (front + length text) line_limit && (is_utf8 text && list_all is_inner text)

-- each text fits in the line of a link, after `link `
abbrev pub all_fit : List (List ℕ) → Bool
all_fit texts = list_all (fits 5) texts
