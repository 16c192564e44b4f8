-- How a text is shown to people.
use Rattle.std.specs.Prelude.{ℕ, ◌==◌, Bool, false, ◌&&◌, ◌||◌, not, List, ◌++◌, codes, nat_le, if◌then◌else◌, flat_map, chars}
use Rattle.std.specs.Char.{encode_utf8, is_control}
use Rattle.std.specs.Fmt.{digits}
use Rattle.std.specs.Int.{is_in_range}
use Rattle.shown_text.specs.declared.escape.Lines.{Lines}
use Rattle.shown_text.specs.declared.escape.Lines.TheVariants as lines

-- a character that can end a line, control a terminal or change the order in which other characters are displayed: C0, DEL, C1,
-- the separators U+2028 and U+2029, and the bidirectional controls U+202A to U+202E and U+2066 to U+2069
abbrev pub is_hidden : ℕ → Bool
is_hidden c = is_control c || is_in_range 0x2028 0x202E c || is_in_range 0x2066 0x2069 c

-- which hidden characters are escaped: all of them, or all but LF in a text of several lines
abbrev pub is_escaped : Lines → ℕ → Bool
is_escaped lines.One c = is_hidden c
is_escaped lines.Several c = is_hidden c && not (c == 10)

-- such as \u{1b}: the hexadecimal number of the character
abbrev pub escape_of : ℕ → List ℕ
escape_of c = codes "\\u{" ++ digits 16 false c ++ codes "}"

abbrev pub shown_char_in : Lines → ℕ → List ℕ
shown_char_in how c = if is_escaped how c then escape_of c else encode_utf8 c

abbrev pub shown_in : Lines → List ℕ → List ℕ
shown_in how text = flat_map (shown_char_in how) (chars text)

abbrev pub shown_char : ℕ → List ℕ
shown_char c = shown_char_in lines.One c

abbrev pub shown : List ℕ → List ℕ
shown text = shown_in lines.One text

abbrev pub shown_lines : List ℕ → List ℕ
shown_lines text = shown_in lines.Several text

-- ---- laws

abbrev pub is_visible : ℕ → Bool
is_visible c = not (is_hidden c)

abbrev pub is_visible_or_lf : ℕ → Bool
is_visible_or_lf c = is_visible c || (c == 10)

-- a byte that is neither a C0 control nor DEL
abbrev pub is_printed : ℕ → Bool
is_printed b = nat_le 32 b && not (b == 127)

-- ---- bytes that are copied without a look at their characters

-- a byte with which no hidden character begins in UTF-8: C1 controls begin with 0xC2, and the separators and bidirectional controls with 0xE2
abbrev pub is_plain : ℕ → Bool
is_plain b = nat_le 32 b && not ((b == 127) || (b == 194) || (b == 226))
