-- The text of a link as it is written in a line of a saved web.
use Rattle.std.specs.Prelude.{◌≡◌, ◌≤◌, ℕ, Bool, true, false, ◌&&◌, ◌||◌, List, [], ◌∷◌, ◌++◌, length, if◌then◌else◌}
use Rattle.std.specs.Char.{is_ascii}
use Rattle.std.specs.List.{before_first, flat_map, list_all}
use Rattle.url.specs.Input.{strip_tabs_and_new_lines, trim_c0_control_and_space}
use Rattle.crawl_keys.specs.Fragments.{is_number_sign}
use Rattle.document_links.specs.declared.charset.Charset.{Charset}
use Rattle.document_links.specs.declared.charset.Charset.TheVariants.{Utf8, Utf16Le, Utf16Be, Windows1252, Other}
use Rattle.document_links.specs.declared.page_base.PageBase.{PageBase}
use Rattle.document_links.specs.declared.page_base.PageBase.TheVariants as base
use Rattle.document_links.specs.Texts.{fits}

-- the text that the URL Standard's parser reads: without control bytes and spaces at its ends, and without tabs and line breaks
abbrev pub clean : List ℕ → List ℕ
clean text = strip_tabs_and_new_lines (trim_c0_control_and_space text)

abbrev pub without_fragment : List ℕ → List ℕ
without_fragment text = before_first is_number_sign text

-- the text fits in the line of a link, at least without its fragment
abbrev pub has_room : List ℕ → Bool
has_room text = fits 5 text || fits 5 (without_fragment text)

-- the text; without its fragment if it does not fit in a line otherwise
abbrev pub shortened : List ℕ → List ℕ
shortened text = if fits 5 text then text else without_fragment text

-- the text of a link on a page without `base`
abbrev pub written : List ℕ → List ℕ
written text = shortened (clean text)

-- the number of bytes of all texts
abbrev pub byte_count : List (List ℕ) → ℕ
byte_count texts = length (flat_map (λ text. text) texts)

-- ---- the links of a page

-- the encoding is a Unicode one, so that queries are in UTF-8
abbrev pub is_unicode : Charset → Bool
is_unicode Utf8 = true
is_unicode Utf16Le = true
is_unicode Utf16Be = true
is_unicode Windows1252 = false
is_unicode Other = false

abbrev pub has_no_base : PageBase → Bool
has_no_base (base.Url url) = false
has_no_base (base.Scheme front) = false
has_no_base base.None = true

-- the query of a link with this text is in UTF-8: the encoding of the page is a Unicode one, or the text is ASCII
abbrev pub keeps_query : Charset → List ℕ → Bool
keeps_query charset text = is_unicode charset || list_all is_ascii text

-- a link on a page in this encoding is written as its own text, if the page has no `base`
abbrev pub can_write : Charset → List ℕ → Bool
can_write charset text = has_room (clean text) && keeps_query charset (clean text)

-- what is written of a link: this text, if it can be, and otherwise at most one text
abbrev pub AreTextsOf : Bool → List ℕ → List (List ℕ) → Type 0
AreTextsOf true text texts = texts ≡ written text ∷ []
AreTextsOf false text texts = length texts ≤ 1

-- what is written of each of these links
abbrev pub AreTextsOfEach : Charset → List (List ℕ) → List (List (List ℕ)) → Type 0
AreTextsOfEach charset [] [] = Unit {0}
AreTextsOfEach charset [] (texts ∷ more) = ⊥
AreTextsOfEach charset (link ∷ links) [] = ⊥
AreTextsOfEach charset (link ∷ links) (texts ∷ more) = AreTextsOf (can_write charset link) link texts × AreTextsOfEach charset links more

-- the old texts are followed by those of each of these links, in order
pub record AreTexts (charset : Charset) (old links new : List (List ℕ)) : Type 0 where
  pub parts : List (List (List ℕ))
  pub each : AreTextsOfEach charset links parts
  pub all : new ≡ old ++ flat_map (λ texts. texts) parts

-- so they are, unless they exceed the limit
pub record AreWritten (charset : Charset) (old links new : List (List ℕ)) (limit : ℕ) : Type 0 where
  pub within : byte_count new ≤ limit → AreTexts charset old links new

-- the old texts are followed by at most one
pub record IsOneMore (old new : List (List ℕ)) : Type 0 where
  pub texts : List (List ℕ)
  pub most : length texts ≤ 1
  pub all : new ≡ old ++ texts
