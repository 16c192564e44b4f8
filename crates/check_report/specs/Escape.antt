-- Escapes of untrusted texts.
use Rattle.std.specs.Prelude.{ℕ, ◌==◌, Bool, true, false, ◌&&◌, ◌||◌, not, List, [], ◌∷◌, codes, nat_le, if◌then◌else◌, flat_map, chars}
use Rattle.shown_text.specs.Shown.{is_printed, shown_char}
use Rattle.check_report.specs.declared.escape.Escape.{Escape}
use Rattle.check_report.specs.declared.escape.Escape.TheVariants as escape

-- in the message of a GitHub command
abbrev pub data_char : ℕ → List ℕ
data_char c = if c == 37 then codes "%25" else (if c == 13 then codes "%0D" else (if c == 10 then codes "%0A" else shown_char c))

-- in a property of a GitHub command
abbrev pub property_char : ℕ → List ℕ
property_char c = if c == 58 then codes "%3A" else (if c == 44 then codes "%2C" else data_char c)

-- in the text of an HTML element, or in an attribute
abbrev pub html_char : ℕ → List ℕ
html_char c =
    if c == 38 then codes "&amp;" else (if c == 60 then codes "&lt;" else (if c == 62 then codes "&gt;" else (if c == 34 then codes "&#34;" else (if c == 39 then codes "&#39;" else shown_char c))))

abbrev pub escaped_char : Escape → ℕ → List ℕ
escaped_char escape.Shown c = shown_char c
escaped_char escape.Data c = data_char c
escaped_char escape.Property c = property_char c
escaped_char escape.Html c = html_char c

-- each character is escaped
abbrev pub escaped : Escape → List ℕ → List ℕ
escaped how text = flat_map (escaped_char how) (chars text)

-- a byte that is none of LF, CR, " % & ' , : < >: in every form, what is shown of such characters is printed
abbrev pub is_ordinary : ℕ → Bool
is_ordinary b = not ((b == 10) || (b == 13) || (b == 34) || (b == 37) || (b == 38) || (b == 39) || (b == 44) || (b == 58) || (b == 60) || (b == 62))

-- ---- what an escaped text cannot contain

-- the code of a C1 control; UTF-8 has such a control as 194 and its code
abbrev pub is_c1 : ℕ → Bool
is_c1 code = nat_le 128 code && nat_le code 159

-- the text starts with a C1 control in UTF-8
abbrev pub begins_with_c1 : List ℕ → Bool
begins_with_c1 [] = false
begins_with_c1 (b ∷ []) = false
begins_with_c1 (b ∷ code ∷ rest) = (b == 194) && is_c1 code

-- the text has no C1 control
abbrev pub has_no_c1 : List ℕ → Bool
has_no_c1 [] = true
has_no_c1 (b ∷ rest) = not (begins_with_c1 (b ∷ rest)) && has_no_c1 rest

-- neither a control byte nor something that ends a property
abbrev pub is_in_property : ℕ → Bool
is_in_property b = is_printed b && (not (b == 58) && not (b == 44))

-- one of < > " '
abbrev pub is_markup : ℕ → Bool
is_markup b = (b == 60) || (b == 62) || (b == 34) || (b == 39)

abbrev pub begins_with : List ℕ → List ℕ → Bool
begins_with [] text = true
begins_with (c ∷ cs) [] = false
begins_with (c ∷ cs) (b ∷ bs) = (b == c) && begins_with cs bs

-- the text after the & of a character reference
abbrev pub is_reference : List ℕ → Bool
is_reference text = begins_with (codes "amp;") text || begins_with (codes "lt;") text || begins_with (codes "gt;") text || begins_with (codes "#34;") text || begins_with (codes "#39;") text

-- the text has no < > " ' and each & starts a character reference
abbrev pub is_inert : List ℕ → Bool
is_inert [] = true
is_inert (b ∷ bs) = (if b == 38 then is_reference bs else not (is_markup b)) && is_inert bs
