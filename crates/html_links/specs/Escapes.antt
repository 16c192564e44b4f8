-- The text of a URL in a style sheet: its escapes decoded, as in the states of CSS Syntax, and U+FFFD for each NUL.
use Rattle.std.specs.Prelude.{ℕ, ◌+◌, ◌==◌, ◌||◌, ◌&&◌, nat_lt, Bool, true, false, if◌then◌else◌, List, [], ◌∷◌, ◌++◌, Option, None, Some}
use Rattle.std.specs.Char.{encode_utf8}
use Rattle.html_links.specs.declared.escapes.State.{State}
use Rattle.html_links.specs.declared.escapes.State.TheVariants.{Plain, Backslash, Number, Return}
use Rattle.html_links.specs.References.{digit_in, number_after}
use Rattle.html_links.specs.Shown.{is_space}

-- a line break, which a carriage return is too
abbrev pub is_break : ℕ → Bool
is_break c = c == 10 || c == 12 || c == 13

-- the character with a number: U+FFFD for 0, surrogates and numbers above all characters
abbrev pub character_of : ℕ → ℕ
character_of n =
    if n == 0 then 65533
    else if nat_lt n 55296 then n
    else if nat_lt n 57344 then 65533
    else if nat_lt n 1114112 then n
    else 65533

abbrev pub byte_text : ℕ → List ℕ
byte_text c = if c == 0 then encode_utf8 65533 else c ∷ []

-- the text of a byte that is not part of an escape, or that begins one
abbrev pub unescaped_text : ℕ → List ℕ
unescaped_text c = if c == 92 then [] else byte_text c

abbrev pub plain_state : ℕ → State
plain_state c = if c == 92 then Backslash else Plain

abbrev pub is_there : Option ℕ → Bool
is_there None = false
is_there (Some digit) = true

-- the byte is a hexadecimal digit
abbrev pub is_hex : ℕ → Bool
is_hex c = is_there (digit_in 16 c)

-- the text of a byte after a backslash: none for a digit of a number, and for a line break
abbrev pub escaped_text : ℕ → List ℕ
escaped_text c = if is_hex c || is_break c then [] else byte_text c

abbrev pub escaped_with : ℕ → Option ℕ → State
escaped_with c None = if c == 13 then Return else Plain
escaped_with c (Some digit) = Number digit 1

-- the text of a number at its end, and of the byte after it. White space after a number is part of the escape.
abbrev pub ended_text : ℕ → ℕ → List ℕ
ended_text n c = encode_utf8 (character_of n) ++ (if is_space c then [] else unescaped_text c)

abbrev pub ended_state : ℕ → State
ended_state c = if c == 13 then Return else if is_space c then Plain else plain_state c

-- the text of a byte after a number. A number has at most six digits.
abbrev pub numbered_text : ℕ → ℕ → ℕ → List ℕ
numbered_text n count c = if is_hex c && nat_lt count 6 then [] else ended_text n c

abbrev pub numbered_with : ℕ → ℕ → ℕ → Option ℕ → State
numbered_with n count c None = ended_state c
numbered_with n count c (Some digit) = if nat_lt count 6 then Number (number_after 16 n digit) (count + 1) else ended_state c

-- the text that a byte adds in a state
abbrev pub step_text : State → ℕ → List ℕ
step_text Plain c = unescaped_text c
step_text Backslash c = escaped_text c
step_text (Number n count) c = numbered_text n count c
step_text Return c = if c == 10 then [] else unescaped_text c

-- the state after it
abbrev pub state_after : State → ℕ → State
state_after Plain c = plain_state c
state_after Backslash c = escaped_with c (digit_in 16 c)
state_after (Number n count) c = numbered_with n count c (digit_in 16 c)
state_after Return c = if c == 10 then Plain else plain_state c

-- the byte is part of an escape: the first one after a backslash, a digit of a number, white space after it, or the rest of a line
-- break
abbrev pub is_escaped : State → ℕ → Bool
is_escaped Plain c = false
is_escaped Backslash c = true
is_escaped (Number n count) c = is_space c || (is_hex c && nat_lt count 6)
is_escaped Return c = c == 10

-- the text that a state adds at the end
abbrev pub at_end : State → List ℕ
at_end (Number n count) = encode_utf8 (character_of n)
at_end _ = []

abbrev pub read : State → List ℕ → List ℕ
read state [] = at_end state
read state (c ∷ rest) = step_text state c ++ read (state_after state c) rest

abbrev pub unescaped : List ℕ → List ℕ
unescaped text = read Plain text
