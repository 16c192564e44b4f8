-- The text of an attribute's value, as the HTML Standard's tokenizer reads it: its character references, in the states from
-- character reference to numeric character reference end, and U+FFFD for each NUL, in the attribute value states. Bytes that are
-- not a reference stay unchanged. In a value, a name without `;` counts only if neither a letter or digit nor `=` follows it, so
-- the longest name that counts is all letters and digits, with a `;` after them if there is one.
use Rattle.std.specs.Prelude.{ℕ, ◌+◌, ◌-◌, ◌*◌, ◌==◌, ◌||◌, nat_lt, Bool, true, false, if◌then◌else◌, List, [], ◌∷◌, ◌++◌, Option, None, Some, slice_index}
use Rattle.std.specs.Char.{is_ascii_alphanumeric, is_digit, digit_value, encode_utf8}
use Rattle.std.specs.Int.{is_in_range}
use Rattle.html_links.specs.Names.{named}
use Rattle.html_links.specs.declared.references.TheConstants.{WINDOWS}

-- The states: in text, or after an `&`: in a name, after `#` and maybe `x`, or in digits.
pub data State : Type 0 where
  Text : State
  Reference : State
  Name : List ℕ → State
  Hash : State
  Start : ℕ → List ℕ → State
  Number : ℕ → ℕ → State

-- some bytes of the text, and the state after them
pub data Next : Type 0 where
  Go : List ℕ → State → Next

-- the character with a number: that of Windows for 128 to 159, and U+FFFD for 0, surrogates and numbers above all characters
abbrev pub character_of : ℕ → ℕ
character_of n =
    if n == 0 then 65533
    else if is_in_range 128 159 n then slice_index WINDOWS (n - 128)
    else if nat_lt n 55296 then n
    else if nat_lt n 57344 then 65533
    else if nat_lt n 1114112 then n
    else 65533

-- The number with one more digit. A number above all characters stays as it is, since it means U+FFFD with more digits too.
abbrev pub number_after : ℕ → ℕ → ℕ → ℕ
number_after radix n digit = if nat_lt n 1114112 then n * radix + digit else n

abbrev pub digit_in : ℕ → ℕ → Option ℕ
digit_in radix c = if is_digit c radix then Some (digit_value c) else None

-- the step at a byte of text, after these bytes of the text
abbrev pub text_step : List ℕ → ℕ → Next
text_step before c =
    if c == 38 then Go before Reference
    else if c == 0 then Go (before ++ encode_utf8 65533) Text
    else Go (before ++ c ∷ []) Text

abbrev pub start_at : List ℕ → ℕ → ℕ → Option ℕ → Next
start_at before radix c None = text_step (38 ∷ before) c
start_at before radix c (Some digit) = Go [] (Number radix digit)

abbrev pub start_step : ℕ → List ℕ → ℕ → Next
start_step radix before c = start_at before radix c (digit_in radix c)

abbrev pub number_text : ℕ → List ℕ
number_text n = encode_utf8 (character_of n)

abbrev pub number_end : ℕ → ℕ → Next
number_end n c = if c == 59 then Go (number_text n) Text else text_step (number_text n) c

abbrev pub number_at : ℕ → ℕ → ℕ → Option ℕ → Next
number_at radix n c None = number_end n c
number_at radix n c (Some digit) = Go [] (Number radix (number_after radix n digit))

-- the text of a name without a `;`
abbrev pub or_itself : List ℕ → Option (List ℕ) → List ℕ
or_itself name None = 38 ∷ name
or_itself name (Some text) = text

abbrev pub name_text : List ℕ → List ℕ
name_text name = or_itself name (named false name)

abbrev pub closed_at : List ℕ → Option (List ℕ) → Next
closed_at name None = text_step (38 ∷ name) 59
closed_at name (Some text) = Go text Text

abbrev pub name_end : List ℕ → ℕ → Next
name_end name c =
    if c == 59 then closed_at name (named true name)
    else if c == 61 then text_step (38 ∷ name) c
    else text_step (name_text name) c

abbrev pub is_x : ℕ → Bool
is_x c = c == 120 || c == 88

abbrev pub step : State → ℕ → Next
step Text c = text_step [] c
step Reference c =
    if c == 35 then Go [] Hash
    else if is_ascii_alphanumeric c then Go [] (Name (c ∷ []))
    else text_step (38 ∷ []) c
step (Name name) c = if is_ascii_alphanumeric c then Go [] (Name (name ++ c ∷ [])) else name_end name c
step Hash c = if is_x c then Go [] (Start 16 (35 ∷ c ∷ [])) else start_step 10 (35 ∷ []) c
step (Start radix before) c = start_step radix before c
step (Number radix n) c = number_at radix n c (digit_in radix c)

-- the text that a state adds at the end of the value
abbrev pub at_end : State → List ℕ
at_end Text = []
at_end Reference = 38 ∷ []
at_end (Name name) = name_text name
at_end Hash = 38 ∷ 35 ∷ []
at_end (Start radix before) = 38 ∷ before
at_end (Number radix n) = number_text n

abbrev pub follow : Next → (State → List ℕ) → List ℕ
follow (Go some state) on = some ++ on state

abbrev pub read : State → List ℕ → List ℕ
read state [] = at_end state
read state (c ∷ rest) = follow (step state c) (λ state. read state rest)

-- the text of a value as written
abbrev pub text_of : List ℕ → List ℕ
text_of value = read Text value
