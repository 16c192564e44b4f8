-- Markup of XML, from after its `<`: comments, CDATA sections, processing instructions, declarations and tags.
use Rattle.std.specs.Prelude.{ℕ, ◌+◌, ◌-◌, ◌==◌, min, Bool, true, false, not, ◌&&◌, ◌||◌, List, [], ◌∷◌, ◌++◌, codes, length, take, drop, Option, None, Some, if◌then◌else◌}
use Rattle.std.specs.List.{suffix_len}
use Rattle.std.specs.Option.{unwrap_or}
use Rattle.std.specs.Str.{bytes_eq}
use Rattle.memchr.specs.Find.{first_of, matches}
use Rattle.url.specs.Input.{rsplit_once, trim_end}
use Rattle.html_links.specs.Shown.{front}
use Rattle.document_links.specs.declared.markup.Markup.{Markup}
use Rattle.document_links.specs.declared.markup.Markup.TheVariants.{Comment, Section, Declaration, Instruction, EndTag, StartTag}

abbrev pub begins : List ℕ → List ℕ → Bool
begins word bytes = bytes_eq word (take (length word) bytes)

abbrev pub markup_of : List ℕ → Markup
markup_of bytes =
    if begins (codes "!--") bytes then Comment
    else if begins (codes "![CDATA[") bytes then Section
    else if begins (codes "!") bytes then Declaration
    else if begins (codes "?") bytes then Instruction
    else if begins (codes "/") bytes then EndTag
    else StartTag

-- the number of bytes before the first `word`, or of all bytes if it is not there
abbrev pub before : List ℕ → List ℕ → ℕ
before word bytes = unwrap_or (first_of (matches bytes word 0)) (length bytes)

-- the number of bytes up to and with that word, or of all bytes
abbrev pub through : List ℕ → List ℕ → ℕ
through word bytes = min (before word bytes + length word) (length bytes)

abbrev pub is_quote : ℕ → Bool
is_quote b = b == 34 || b == 39

abbrev pub is_unquoted : ℕ → Bool
is_unquoted b = not (is_quote b)

-- the quote that is open after a byte, or 0 if none is
abbrev pub quote_after : ℕ → ℕ → ℕ
quote_after quote b = if quote == 0 then (if is_quote b then b else 0) else (if b == quote then 0 else quote)

-- the byte ends a tag, or a declaration, which also ends where declarations inside it begin
abbrev pub is_end : Bool → ℕ → Bool
is_end declares b = b == 62 || (declares && b == 91)

-- the number of bytes of a tag or a declaration, with its end, which is outside of quotes
abbrev pub tag_len : Bool → ℕ → List ℕ → ℕ
tag_len declares quote [] = 0
tag_len declares quote (b ∷ bytes) = if quote == 0 && is_end declares b then 1 else 1 + tag_len declares (quote_after quote b) bytes

-- the number of bytes of markup with its end. Markup without an end takes all bytes
abbrev pub len_of : Markup → List ℕ → ℕ
len_of Comment bytes = through (codes "-->") bytes
len_of Section bytes = through (codes "]]>") bytes
len_of Declaration bytes = tag_len true 0 bytes
len_of Instruction bytes = through (codes "?>") bytes
len_of EndTag bytes = tag_len false 0 bytes
len_of StartTag bytes = tag_len false 0 bytes

abbrev pub markup_len : List ℕ → ℕ
markup_len bytes = len_of (markup_of bytes) bytes

abbrev pub is_tag : Markup → Bool
is_tag EndTag = true
is_tag StartTag = true
is_tag _ = false

-- the text of a CDATA section. Other markup has none
abbrev pub section_of : Markup → List ℕ → List ℕ
section_of Section bytes = drop 8 (take (before (codes "]]>") bytes) bytes)
section_of _ bytes = []

-- ---- start tags

abbrev pub is_space : ℕ → Bool
is_space b = b == 9 || (b == 10 || (b == 13 || b == 32))

-- the byte may be between the name of an attribute and its value
abbrev pub is_gap : ℕ → Bool
is_gap b = is_space b || b == 61

abbrev pub in_name : ℕ → Bool
in_name b = not (is_gap b || (b == 47 || b == 62))

-- the name of a tag without its prefix
abbrev pub local_name : List ℕ → List ℕ
local_name tag = (rsplit_once 58 (front in_name tag)).1

-- the tag is also the end of its element
abbrev pub closes : List ℕ → Bool
closes tag = bytes_eq (codes "/>") (drop (length tag - 2) tag)

-- the name at the end of these bytes
abbrev pub last_name : List ℕ → List ℕ
last_name bytes = drop (length bytes - suffix_len in_name bytes) bytes

-- the name of the attribute whose value comes after these bytes
abbrev pub name_before : List ℕ → List ℕ
name_before bytes = last_name (trim_end is_gap bytes)

-- What `found` says of the value of the first attribute with this name, by its quote and the bytes after that quote, or `none`. The
-- quote `quote` is open; or it is 0, and `since` are the bytes since the last value.
abbrev pub at_value : {X : Type 0} → (ℕ → List ℕ → X) → X → List ℕ → ℕ → List ℕ → List ℕ → X
at_value found none name quote since [] = none
at_value found none name quote since (b ∷ bytes) =
    if quote == 0 then
    (if is_quote b then (if bytes_eq (name_before since) name then found b bytes else at_value found none name b [] bytes)
    else at_value found none name 0 (since ++ b ∷ []) bytes)
    else at_value found none name (quote_after quote b) [] bytes

-- the bytes before this quote
abbrev pub quoted : ℕ → List ℕ → Option (List ℕ)
quoted quote bytes = Some (front (λ b. not (b == quote)) bytes)

-- the value of the first attribute with this name
abbrev pub value_of : List ℕ → List ℕ → Option (List ℕ)
value_of name tag = at_value quoted None name 0 [] tag

-- the number of bytes from this value on to the end of the tag, or 0 if there is no such attribute
abbrev pub value_left : List ℕ → List ℕ → ℕ
value_left name tag = at_value (λ quote bytes. length bytes) 0 name 0 [] tag
