-- The text of XML in which references are decoded.
use Rattle.std.specs.Prelude.{ℕ, ◌==◌, nat_lt, Bool, not, ◌||◌, List, [], ◌∷◌, ◌++◌, codes, drop, Option, None, Some, if◌then◌else◌}
use Rattle.std.specs.Char.{encode_utf8}
use Rattle.std.specs.Option.{option_and_then, option_map_or}
use Rattle.std.specs.Str.{bytes_eq}
use Rattle.html_links.specs.References.{digit_in, number_after}
use Rattle.document_links.specs.Markup.{begins}

-- the character with this number, which is neither 0 nor a surrogate
abbrev pub character_of : ℕ → Option ℕ
character_of n =
    if n == 0 then None
    else if nat_lt n 55296 then Some n
    else if nat_lt n 57344 then None
    else if nat_lt n 1114112 then Some n
    else None

-- a number with these digits after it; none if they are not digits
abbrev pub number_from : ℕ → ℕ → List ℕ → Option ℕ
number_from radix n [] = Some n
number_from radix n (b ∷ bytes) = option_and_then (λ digit. number_from radix (number_after radix n digit) bytes) (digit_in radix b)

abbrev pub number_of : List ℕ → Option ℕ
number_of name =
    if begins (codes "#x") name then number_from 16 0 (drop 2 name)
    else if begins (codes "#") name then number_from 10 0 (drop 1 name)
    else None

-- the character for a name between `&` and `;`
abbrev pub character_named : List ℕ → Option ℕ
character_named name =
    if bytes_eq name (codes "amp") then Some 38
    else if bytes_eq name (codes "lt") then Some 60
    else if bytes_eq name (codes "gt") then Some 62
    else if bytes_eq name (codes "quot") then Some 34
    else if bytes_eq name (codes "apos") then Some 39
    else option_and_then character_of (number_of name)

-- the text of a reference; one without a meaning stays unchanged
abbrev pub meaning_of : List ℕ → List ℕ
meaning_of name = option_map_or encode_utf8 (character_named name) (38 ∷ name ++ 59 ∷ [])

-- the byte may be in a reference
abbrev pub in_reference : ℕ → Bool
in_reference b = not (b == 59 || b == 38)

-- the states: outside of a reference, or after an `&` and these bytes
pub data Reading : Type 0 where
  Plain : Reading
  Reference : List ℕ → Reading

-- the decoded text; a reference ends at the next `;`, unless another `&` or the end of the text comes first
abbrev pub unescaped_from : Reading → List ℕ → List ℕ
unescaped_from Plain [] = []
unescaped_from Plain (b ∷ bytes) = if b == 38 then unescaped_from (Reference []) bytes else b ∷ unescaped_from Plain bytes
unescaped_from (Reference name) [] = 38 ∷ name
unescaped_from (Reference name) (b ∷ bytes) =
    if b == 59 then meaning_of name ++ unescaped_from Plain bytes
    else if b == 38 then (38 ∷ name) ++ unescaped_from (Reference []) bytes
    else unescaped_from (Reference (name ++ b ∷ [])) bytes

abbrev pub unescaped : List ℕ → List ℕ
unescaped text = unescaped_from Plain text
