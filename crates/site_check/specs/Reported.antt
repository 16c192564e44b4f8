-- The rows of a check: those that entries with a file leave of the rows of all targets.
use Rattle.std.specs.Prelude.{◌≡◌, ◌==◌, ℕ, Bool, not, ◌&&◌, List, ◌++◌, length, map, filter, flat_map, Option, string_bytes, option_map}
use Rattle.check_report.specs.declared.value.Broken.{Broken}
use Rattle.check_report.specs.declared.value.Kind.{Kind}
use Rattle.check_report.specs.declared.value.Place.{Place}
use Rattle.crawl_pages.specs.declared.page.PageResult.{PageResult}
use Rattle.document_links.specs.declared.anchors.PageAnchors.{PageAnchors}
use Rattle.document_links.specs.declared.positions.LinkPlaces.{LinkPlaces}
use Rattle.site_check.specs.AnchorGroups.{anchor_row}
use Rattle.site_check.specs.Anchors.{anchor_text}
use Rattle.site_check.specs.Broken.{Row, broken_of, is_place_ignored, linked_at, result_at, rows_with}
use Rattle.site_check.specs.Hints.{hints_at, hints_in, hints_of}
use Rattle.site_check.specs.Ignored.{AreUnused, anchors_in, anchors_left, not_ignored, text_at, unused}
use Rattle.site_check.specs.Invalid.{AreInvalid, invalid_rows_in, row_of, text_of, texts_if}
use Rattle.site_check.specs.Lacks.{AreAnchors}
use Rattle.site_check.specs.Leaving.{leaving_in, leaving_of, outside_at, outside_texts, row_at, shown_at}
use Rattle.site_check.specs.Names.{AreNamed}
use Rattle.site_check.specs.RowMeanings.{rows_in}
use Rattle.site_check.specs.declared.input.MapName.{MapName}
use Rattle.site_check.specs.declared.input.Scope.{Scope}
use Rattle.site_check.specs.declared.invalid.InvalidText.{InvalidText}
use Rattle.site_check.specs.declared.outside.Outside.{Outside}
use Rattle.site_check.specs.declared.linked.Linked as code
use Rattle.site_check.specs.declared.missing_anchors.MissingAnchor.{MissingAnchor}
use Rattle.site_files.specs.declared.alias.Alias.{Alias}
use Rattle.site_files.specs.declared.files.SiteFiles.{SiteFiles}

-- a check reports all that it finds
abbrev pub reports_all : Scope → Bool
reports_all scope = scope.invalid

-- ---- what is left

-- a row with all that is printed of it
pub record TargetRow : Type 0 where
  pub target : List ℕ
  pub kind : Kind
  pub pages : ℕ
  pub places : List Place
  pub same_name : Option (List ℕ)
  pub hint : Option (List ℕ)

abbrev pub target_row : Broken → TargetRow
target_row b =
    record { target = string_bytes b.target; kind = b.kind; pages = b.pages; places = b.places.items; same_name = option_map string_bytes b.same_name; hint = option_map string_bytes b.hint }

-- the locations that no entry matches
abbrev pub places_left : List (List ℕ) → List ℕ → List Place → List Place
places_left entries target places = filter (λ place. not (is_place_ignored entries target (string_bytes place.file))) places

-- a row goes if it has locations and none of them is left. One without locations stays
abbrev pub is_gone : List (List ℕ) → TargetRow → Bool
is_gone entries row = not (length row.places == 0) && length (places_left entries row.target row.places) == 0

-- a row with the locations that are left
abbrev pub with_left : List (List ℕ) → TargetRow → TargetRow
with_left entries row =
    record { target = row.target; kind = row.kind; pages = row.pages; places = places_left entries row.target row.places; same_name = row.same_name; hint = row.hint }

abbrev pub rows_left : List (List ℕ) → List TargetRow → List TargetRow
rows_left entries rows = map (with_left entries) (filter (λ row. not (is_gone entries row)) rows)

-- ---- all rows

-- these rows are rows for exactly the following: the missing pages, in order, each with the number of results that link to it, the only page
-- with its file name and the hint at it; the texts of invalid links that `places` has for found pages, each once, if they are in the scope; and
-- the URLs outside the site, each with the folder of `maps` in which it was looked up. The entries `unused_ones` match none of these, no
-- missing anchor and no location
pub record AreAllRows (front : List ℕ) (entries : List (List ℕ)) (scope : Scope) (places : List LinkPlaces) (rooted : Bool) (maps : List MapName) (files : SiteFiles) (results found : List PageResult) (rows : List Broken) (unused_ones : List (List ℕ)) : Type 0 where
  pub pages : rows_in rows ≡ broken_of front entries results
  pub names : AreNamed front files rows
  pub hints : hints_in rows ≡ hints_of front entries files results
  pub invalid : AreInvalid entries (texts_if scope.invalid places results) (invalid_rows_in rows)
  pub leaving : leaving_in rows ≡ leaving_of entries rooted maps files results found
  pub ignores : AreUnused front entries results (texts_if scope.invalid places results) (outside_texts rooted files found) rows unused_ones

-- these rows are what the entries leave of such rows
pub record AreReported (front : List ℕ) (entries : List (List ℕ)) (scope : Scope) (places : List LinkPlaces) (rooted : Bool) (maps : List MapName) (files : SiteFiles) (results found : List PageResult) (rows : List Broken) (unused_ones : List (List ℕ)) : Type 0 where
  pub whole : List Broken
  pub all : AreAllRows front entries scope places rooted maps files results found whole unused_ones
  pub left : map target_row rows ≡ rows_left entries (map target_row whole)

-- these rows are what the entries leave of rows with those of exactly the missing anchors that no entry matches
pub record ReportsAnchors (front : List ℕ) (entries : List (List ℕ)) (documents : List PageAnchors) (aliases : List Alias) (files : SiteFiles) (results : List PageResult) (rows : List Broken) : Type 0 where
  pub whole : List Broken
  pub left : map target_row rows ≡ rows_left entries (map target_row whole)
  pub anchors : List Row
  pub are : AreAnchors front documents aliases files results anchors
  pub exact : anchors_in whole ≡ anchors_left entries anchors

-- ---- how they are found

-- the same over the results that found no page and what else is broken
pub record AreRows (front : List ℕ) (entries : List (List ℕ)) (files : SiteFiles) (linked : List code.Linked) (anchors : List MissingAnchor) (invalid : List InvalidText) (outside : List Outside) (rows : List Broken) (unused_ones : List (List ℕ)) : Type 0 where
  pub whole : List Broken
  pub pages : rows_in whole ≡ flat_map (rows_with front entries) (map linked_at linked)
  pub names : AreNamed front files whole
  pub hints : hints_in whole ≡ flat_map (hints_at front entries files) (map result_at linked)
  pub anchors_are : anchors_in whole ≡ anchors_left entries (map anchor_row anchors)
  pub texts_are : invalid_rows_in whole ≡ map row_of (not_ignored entries (map text_of invalid))
  pub leaving : leaving_in whole ≡ flat_map (row_at entries) (map outside_at outside)
  pub left : map target_row rows ≡ rows_left entries (map target_row whole)
  pub ignores : unused_ones ≡ unused entries (((map anchor_text anchors ++ map text_of invalid) ++ map shown_at outside) ++ flat_map (text_at front) (map result_at linked)) whole
