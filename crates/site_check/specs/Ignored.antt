-- The entries of what is known to be broken, and which of them match nothing.
use Rattle.std.specs.Prelude.{◌≡◌, ◌==◌, ℕ, Bool, true, not, ◌&&◌, List, [], ◌∷◌, ◌++◌, drop, filter, map, if◌then◌else◌, string_bytes}
use Rattle.std.specs.List.{list_any, flat_map}
use Rattle.std.specs.Str.{trim}
use Rattle.std.specs.Str.Lines.{lines}
use Rattle.std.specs.Str.Lossy.{utf8_lossy}
use Rattle.check_report.specs.declared.value.Broken.{Broken}
use Rattle.check_report.specs.declared.value.Kind.{Kind}
use Rattle.check_report.specs.declared.value.Kind.TheVariants.{NoAnchor}
use Rattle.crawl_pages.specs.Pages.{is_missing}
use Rattle.crawl_pages.specs.declared.page.PageResult.{PageResult}
use Rattle.site_check.specs.Broken.{Row, begins, file_in, fits, is_ignored, matches, matches_target, names_file, shown, target_in}

-- a text that is empty or begins with `#` is no entry
abbrev pub has_no_entry : List ℕ → Bool
has_no_entry [] = true
has_no_entry (byte ∷ rest) = byte == 35

abbrev pub entry_of : List ℕ → List (List ℕ)
entry_of text = if has_no_entry text then [] else text ∷ []

-- the entry of a line, without the white space round it
abbrev pub entry_in : List ℕ → List (List ℕ)
entry_in line = entry_of (trim (utf8_lossy line))

-- what editors put in front of a text in UTF-8
abbrev pub mark : List ℕ
mark = 239 ∷ 187 ∷ 191 ∷ []

abbrev pub without_mark : List ℕ → List ℕ
without_mark bytes = if begins mark bytes then drop 3 bytes else bytes

-- those of all lines
abbrev pub entries_in : List ℕ → List (List ℕ)
entries_in bytes = flat_map entry_in (lines (without_mark bytes))

-- the file and the target of an entry match a location of the row
abbrev pub matches_row : List ℕ → List ℕ → Broken → Bool
matches_row file target b = matches target (string_bytes b.target) && list_any (λ place. fits file (string_bytes place.file)) b.places.items

-- an entry that names a file matches a location of one of the rows, any other one of the texts
abbrev pub is_used : List (List ℕ) → List Broken → List ℕ → Bool
is_used texts rows entry = if names_file entry then list_any (matches_row (file_in entry) (target_in entry)) rows else list_any (matches entry) texts

abbrev pub unused : List (List ℕ) → List (List ℕ) → List Broken → List (List ℕ)
unused entries texts rows = filter (λ entry. not (is_used texts rows entry)) entries

-- those of entries that match none of these documents that no sitemap lists
abbrev pub unused_by : List (List ℕ) → List (List ℕ) → List (List ℕ)
unused_by documents entries = filter (λ entry. not (list_any (matches_target entry) documents)) entries

-- the missing pages, as they are reported
abbrev pub text_at : List ℕ → PageResult → List (List ℕ)
text_at front r = if is_missing r.page then shown front r.url ∷ [] else []

abbrev pub missing_texts : List ℕ → List PageResult → List (List ℕ)
missing_texts front results = flat_map (text_at front) results

-- the rows of anchors
abbrev pub if_anchor : Kind → Row → List Row
if_anchor NoAnchor row = row ∷ []
if_anchor _ row = []

abbrev pub anchor_in : Broken → List Row
anchor_in b = if_anchor b.kind (record { text = string_bytes b.target; pages = b.pages })

abbrev pub anchors_in : List Broken → List Row
anchors_in all = flat_map anchor_in all

-- those that no entry matches
abbrev pub anchors_left : List (List ℕ) → List Row → List Row
anchors_left entries rows = filter (λ row. not (is_ignored entries row.text)) rows

-- the texts that no entry matches
abbrev pub not_ignored : List (List ℕ) → List (List ℕ) → List (List ℕ)
not_ignored entries texts = filter (λ text. not (is_ignored entries text)) texts

-- of all anchors that documents lack those have rows that no entry matches; these of the entries match none of them, no invalid link with
-- one of the texts `links`, none of the other texts, no page that is not there, and no location of the rows
pub record AreUnused (front : List ℕ) (entries : List (List ℕ)) (results : List PageResult) (links others : List (List ℕ)) (rows : List Broken) (all : List (List ℕ)) : Type 0 where
  pub anchors : List Row
  pub row_anchors : anchors_in rows ≡ anchors_left entries anchors
  pub exact : all ≡ unused entries (((map (λ row. row.text) anchors ++ links) ++ others) ++ missing_texts front results) rows
