-- How the names of pages are shown to people: with the characters that their escapes encode.
use Rattle.std.specs.Prelude.{ℕ, ◌-◌, ◌*◌, zero, suc, ◌==◌, Bool, true, false, ◌&&◌, ◌||◌, not, List, [], ◌∷◌, ◌++◌, chars, codes, drop, length, nat_eq, nat_le, string_bytes, take, if◌then◌else◌, Option, None, Some, option_map}
use Rattle.std.specs.Char.{encode_utf8}
use Rattle.std.specs.List.{ends_with, starts_with}
use Rattle.std.specs.Option.{option_or}
use Rattle.std.specs.Str.{is_utf8}
use Rattle.std.specs.Str.Lossy.{utf8_lossy}
use Rattle.percent_encoding.specs.Percent.{percent_decode}
use Rattle.shown_text.specs.Shown.{is_hidden}
use Rattle.check_report.specs.Escape.{escaped}
use Rattle.check_report.specs.declared.escape.Escape.{Escape}
use Rattle.check_report.specs.declared.escape.Escape.TheVariants as escape
use Rattle.check_report.specs.declared.value.Broken.{Broken}
use Rattle.check_report.specs.declared.value.Kind.{Kind}
use Rattle.check_report.specs.declared.value.Kind.TheVariants.{NoPage, NoAnchor, NotUrl, UnknownScheme, LocalFile, Leaves, OutsideBase, NotInMap}

-- ---- escapes

-- a space, or a character beyond ASCII that is not hidden
abbrev pub is_readable : ℕ → Bool
is_readable c = (c == 32) || (nat_le 128 c && not (is_hidden c))

-- the only character, if it is readable
abbrev pub readable_only : List ℕ → Option ℕ
readable_only [] = None
readable_only (c ∷ []) = if is_readable c then Some c else None
readable_only (c ∷ d ∷ cs) = None

abbrev pub readable_in : List ℕ → Option ℕ
readable_in bytes = if is_utf8 bytes then readable_only (chars bytes) else None

-- the readable character that this number of escapes at the start of the text encode, and the number
abbrev pub escapes_of : List ℕ → ℕ → Option (ℕ × ℕ)
escapes_of text count = option_map (λ c. (c, count)) (readable_in (percent_decode (take (3 * count) text)))

-- the readable character that one to four escapes at the start of the text encode, and their number
abbrev pub readable_at : List ℕ → Option (ℕ × ℕ)
readable_at text = option_or (escapes_of text 1) (option_or (escapes_of text 2) (option_or (escapes_of text 3) (escapes_of text 4)))

abbrev pub at_percent : List ℕ → Option (ℕ × ℕ)
at_percent [] = None
at_percent (b ∷ bs) = if b == 37 then readable_at (b ∷ bs) else None

-- the bytes of a readable character, or the byte itself
abbrev pub unescaped_first : ℕ → Option (ℕ × ℕ) → List ℕ
unescaped_first b None = b ∷ []
unescaped_first b (Some found) = encode_utf8 found.0

-- the number of further bytes of the escapes
abbrev pub escaped_more : Option (ℕ × ℕ) → ℕ
escaped_more None = 0
escaped_more (Some found) = 3 * found.1 - 1

-- the text after this number of bytes, with readable characters in place of their escapes
abbrev pub unescaped_from : ℕ → List ℕ → List ℕ
unescaped_from skipped [] = []
unescaped_from (suc skipped) (b ∷ bs) = unescaped_from skipped bs
unescaped_from zero (b ∷ bs) = unescaped_first b (at_percent (b ∷ bs)) ++ unescaped_from (escaped_more (at_percent (b ∷ bs))) bs

abbrev pub unescaped : List ℕ → List ℕ
unescaped text = unescaped_from 0 text

-- these bytes as text. They are UTF-8, because whole characters replace their escapes, so `utf8_lossy` replaces nothing
abbrev pub all_decoded : List ℕ → List ℕ
all_decoded text = utf8_lossy (unescaped text)

-- the text with an escape in place of a space at its end, which nobody would see
abbrev pub with_end : List ℕ → List ℕ
with_end text = if ends_with nat_eq text (codes " ") then take (length text - 1) text ++ codes "%20" else text

-- likewise at its beginning
abbrev pub with_ends : List ℕ → List ℕ
with_ends text = if starts_with nat_eq text (codes " ") then codes "%20" ++ with_end (drop 1 text) else with_end text

-- the text with the readable characters that its escapes encode, but for a space at its beginning or end
unfoldable pub decoded : List ℕ → List ℕ
decoded text = with_ends (all_decoded text)

-- ---- names

-- whether the text is a URL with a host
abbrev pub has_host : List ℕ → Bool
has_host text = starts_with nat_eq text (codes "http://") || starts_with nat_eq text (codes "https://")

-- a page, which is a URL or a path in the folder
abbrev pub page_name : List ℕ → List ℕ
page_name text = if has_host text then text else decoded text

-- whether the target is the text of a link, as it is written
abbrev pub is_text : Kind → Bool
is_text NoPage = false
is_text NoAnchor = false
is_text NotUrl = true
is_text UnknownScheme = true
is_text LocalFile = true
is_text Leaves = false
is_text OutsideBase = false
is_text NotInMap = false

abbrev pub target_name : Broken → List ℕ
target_name b = if is_text b.kind then string_bytes b.target else page_name (string_bytes b.target)

-- whether the position is in a GitHub command, in which names stay as they are
abbrev pub is_command : Escape → Bool
is_command escape.Shown = false
is_command escape.Data = true
is_command escape.Property = true
is_command escape.Html = false

-- a page in this position
abbrev pub page_in : Escape → List ℕ → List ℕ
page_in how text = escaped how (if is_command how then text else page_name text)

-- the name of a target in this position
abbrev pub target_at : Escape → Broken → List ℕ
target_at how b = if is_command how then string_bytes b.target else target_name b

-- and escaped for the position
abbrev pub target_in : Escape → Broken → List ℕ
target_in how b = escaped how (target_at how b)

-- whether the name of the target in this position ends with this link: then the link as it is written says nothing more
abbrev pub ends_with_link : Escape → Broken → List ℕ → Bool
ends_with_link how b link = ends_with nat_eq (target_at how b) link
