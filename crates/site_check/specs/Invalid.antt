-- The invalid links of the pages that were found, and the rows of them.
use Rattle.std.specs.Prelude.{◌≡◌, ◌==◌, ℕ, Bool, true, not, ◌&&◌, if◌then◌else◌, List, [], ◌∷◌, fold, length, map, Option, Some, None, string_bytes, bytes_eq}
use Rattle.std.specs.Borrow.{Bor}
use Rattle.std.specs.BTreeMap.{BTreeMap, get_by}
use Rattle.std.specs.Cmp.Lexicographic.{slice_cmp}
use Rattle.std.specs.List.{flat_map, list_any}
use Rattle.std.specs.Option.{option_map_or}
use Rattle.std.specs.Ordering.{is_lt, nat_cmp}
use Rattle.check_report.specs.declared.value.Broken.{Broken}
use Rattle.check_report.specs.declared.value.Kind.{Kind}
use Rattle.check_report.specs.declared.value.Kind.TheVariants as row
use Rattle.crawl_pages.specs.Pages.{is_found}
use Rattle.crawl_pages.specs.declared.page.PageResult.{PageResult}
use Rattle.document_links.specs.Schemes.{invalid_kind}
use Rattle.document_links.specs.declared.positions.InvalidLink.{InvalidLink}
use Rattle.document_links.specs.declared.positions.LinkPlaces.{LinkPlaces}
use Rattle.document_links.specs.declared.scheme.InvalidKind.{InvalidKind}
use Rattle.document_links.specs.declared.scheme.InvalidKind.TheVariants.{NotUrl, UnknownScheme, LocalFile}
use Rattle.hash_order.specs.HashOrder.{by_hash}
use Rattle.site_check.specs.Ignored.{not_ignored}
use Rattle.site_check.specs.declared.invalid.InvalidText.{InvalidText}
use Rattle.site_check.specs.declared.invalid.PageLink.{PageLink}

-- ---- the links

-- the invalid links of the document at a URL: of the last of these with the URL that has any
abbrev pub invalid_with : List ℕ → List InvalidLink → LinkPlaces → List InvalidLink
invalid_with url before p = if length p.invalid.items == 0 then before else (if bytes_eq p.url url then p.invalid.items else before)

abbrev pub invalid_in : List LinkPlaces → List ℕ → List InvalidLink
invalid_in places url = fold (invalid_with url) [] places

abbrev pub link_texts : List InvalidLink → List (List ℕ)
link_texts links = map (λ link. string_bytes link.text) links

-- the texts of the invalid links in a page that was found
abbrev pub texts_at : (List ℕ → List InvalidLink) → PageResult → List (List ℕ)
texts_at links_of r = if is_found r.page then link_texts (links_of r.url) else []

abbrev pub texts_in : (List ℕ → List InvalidLink) → List PageResult → List (List ℕ)
texts_in links_of results = flat_map (texts_at links_of) results

-- those of all results, if the check lists invalid links
abbrev pub texts_if : Bool → List LinkPlaces → List PageResult → List (List ℕ)
texts_if listed places results = if listed then texts_in (invalid_in places) results else []

-- ---- their texts, each once

-- each text is less than the one after it
abbrev pub ascends_after : List ℕ → List (List ℕ) → Bool
ascends_after last [] = true
ascends_after last (text ∷ more) = is_lt (slice_cmp nat_cmp last text) && ascends_after text more

abbrev pub ascends : List (List ℕ) → Bool
ascends [] = true
ascends (text ∷ more) = ascends_after text more

-- these are the texts of the list, each once and in ascending order
pub record AreTexts (all texts : List (List ℕ)) : Type 0 where
  pub ascending : ascends texts ≡ true
  pub same : (test : List ℕ → Bool) → list_any test texts ≡ list_any test all

-- ---- the rows

-- the text of an invalid link, and what is wrong with it
pub record InvalidRow : Type 0 where
  pub text : List ℕ
  pub kind : Option InvalidKind

abbrev pub row_of : List ℕ → InvalidRow
row_of text = record { text = text; kind = invalid_kind text }

-- a row is one of an invalid link by its kind
abbrev pub if_invalid : Kind → List ℕ → List InvalidRow
if_invalid row.NoPage text = []
if_invalid row.NoAnchor text = []
if_invalid row.NotUrl text = record { text = text; kind = Some NotUrl } ∷ []
if_invalid row.UnknownScheme text = record { text = text; kind = Some UnknownScheme } ∷ []
if_invalid row.LocalFile text = record { text = text; kind = Some LocalFile } ∷ []
if_invalid row.Leaves text = []
if_invalid row.OutsideBase text = []
if_invalid row.NotInMap text = []

abbrev pub invalid_row_in : Broken → List InvalidRow
invalid_row_in b = if_invalid b.kind (string_bytes b.target)

abbrev pub invalid_rows_in : List Broken → List InvalidRow
invalid_rows_in all = flat_map invalid_row_in all

-- the rows of invalid links are those of the texts that no entry matches, in order
pub record AreInvalid (entries all : List (List ℕ)) (rows : List InvalidRow) : Type 0 where
  pub texts : List (List ℕ)
  pub each : AreTexts all texts
  pub exact : rows ≡ map row_of (not_ignored entries texts)

-- ---- how they are found

abbrev pub Documents : Type 0
Documents = BTreeMap (List ℕ) (Bor (List InvalidLink))

abbrev pub invalid_at : Documents → List ℕ → List InvalidLink
invalid_at documents url = option_map_or (λ links. links.now) (get_by (λ k. by_hash url k) documents) []

abbrev pub link_text : PageLink → List ℕ
link_text link = string_bytes link.link.now.text

abbrev pub text_of : InvalidText → List ℕ
text_of text = string_bytes text.link.now.text

-- no text is less than the one before it
abbrev pub rises_after : List ℕ → List (List ℕ) → Bool
rises_after last [] = true
rises_after last (text ∷ more) = not (is_lt (slice_cmp nat_cmp text last)) && rises_after text more

abbrev pub rises : List (List ℕ) → Bool
rises [] = true
rises (text ∷ more) = rises_after text more

-- the texts of a sorted list, without those that are equal to the one before
abbrev pub once_after : List ℕ → List (List ℕ) → List (List ℕ)
once_after last [] = []
once_after last (text ∷ more) = if bytes_eq last text then once_after last more else text ∷ once_after text more

abbrev pub once : List (List ℕ) → List (List ℕ)
once [] = []
once (text ∷ more) = text ∷ once_after text more

-- those that come after the last text so far
abbrev pub once_next : Option (List ℕ) → List (List ℕ) → List (List ℕ)
once_next None more = once more
once_next (Some last) more = once_after last more

-- a text, unless it is that last one
abbrev pub next_text : Option (List ℕ) → List ℕ → List (List ℕ)
next_text None text = text ∷ []
next_text (Some last) text = if bytes_eq last text then [] else text ∷ []

-- the kind of a row for a link
abbrev pub row_kind : InvalidKind → Kind
row_kind NotUrl = row.NotUrl
row_kind UnknownScheme = row.UnknownScheme
row_kind LocalFile = row.LocalFile
