-- The links that lead out of a site: to URLs on its host that are not below its top.
use Rattle.std.specs.Prelude.{◌==◌, ◌+◌, ℕ, Bool, true, false, not, ◌&&◌, if◌then◌else◌, List, [], ◌∷◌, ◌++◌, codes, filter, map, Option, None, Some, option_map, string_bytes, bytes_eq, drop, length}
use Rattle.std.specs.List.{flat_map}
use Rattle.std.specs.Option.{option_and_then}
use Rattle.check_report.specs.declared.value.Broken.{Broken}
use Rattle.check_report.specs.declared.value.Kind.{Kind}
use Rattle.check_report.specs.declared.value.Kind.TheVariants.{Leaves, OutsideBase, NotInMap}
use Rattle.crawl_pages.specs.Pages.{is_missing}
use Rattle.crawl_pages.specs.declared.page.PageResult.{PageResult}
use Rattle.site_check.specs.Broken.{Linked, begins, is_ignored, linked}
use Rattle.site_check.specs.Leads.{Target, to_number}
use Rattle.site_check.specs.Maps.{folder_of}
use Rattle.site_check.specs.Totals.{is_leaving}
use Rattle.site_check.specs.declared.input.MapName.{MapName}
use Rattle.site_check.specs.declared.outside.Outside.{Outside}
use Rattle.site_files.specs.Entries.{entry_at}
use Rattle.site_files.specs.Pages.{found_file}
use Rattle.site_files.specs.Server.{before_query}
use Rattle.site_files.specs.declared.files.SiteFiles.{SiteFiles}

-- ---- which URLs are outside

-- the URL has the scheme, the host and the port of the site
abbrev pub is_on_host : SiteFiles → List ℕ → Bool
is_on_host files url = begins (string_bytes files.site.origin ++ 47 ∷ []) url

abbrev pub is_outside : SiteFiles → List ℕ → Bool
is_outside files url = is_on_host files url && not (begins (string_bytes files.site.top) url)

-- and there is no page: a page at such a URL is one below the top, whose URL is spelled in another way
abbrev pub is_left : SiteFiles → PageResult → Bool
is_left files r = is_missing r.page && is_outside files r.url

abbrev pub outside_of : SiteFiles → List PageResult → List PageResult
outside_of files found = filter (is_left files) found

-- ---- how they are shown

-- a `../` for each folder that a text names
abbrev pub step_up : ℕ → List ℕ
step_up byte = if byte == 47 then codes "../" else []

abbrev pub steps_up : List ℕ → List ℕ
steps_up folders = flat_map step_up folders

-- two texts are read until they differ. `up` and `rest` are what they have after the last slash so far
abbrev pub path_after : List ℕ → List ℕ → List ℕ → List ℕ → List ℕ
path_after up rest [] url = steps_up up ++ rest
path_after up rest (t ∷ top) [] = steps_up up ++ rest
path_after up rest (t ∷ top) (u ∷ url) = if t == u then (if t == 47 then path_after top url top url else path_after up rest top url) else steps_up up ++ rest

-- a URL as a path from the top: a `../` for each folder of the top that the URL does not have, and then what only the URL has
abbrev pub path_from : List ℕ → List ℕ → List ℕ
path_from top url = path_after top url top url

-- as such a path if the URL of the folder is not known
abbrev pub outside_text : Bool → SiteFiles → List ℕ → List ℕ
outside_text rooted files url = if rooted then path_from (string_bytes files.site.top) url else url

abbrev pub outside_texts : Bool → SiteFiles → List PageResult → List (List ℕ)
outside_texts rooted files found = map (λ r. outside_text rooted files r.url) (outside_of files found)

-- ---- which page may be meant

-- the page at this URL, if a file has it
abbrev pub page_of_file : SiteFiles → List ℕ → Option (List ℕ)
page_of_file files url = option_map (λ file. url) (found_file (entry_at files.pages url))

-- what follows the front of a URL, if it begins with that
abbrev pub after_front : List ℕ → List ℕ → Option (List ℕ)
after_front front url = if begins front url then Some (drop (length front) url) else None

abbrev pub with_slash : List ℕ → List ℕ
with_slash text = text ++ 47 ∷ []

-- the page that has the same path below the top as this URL has below the host
abbrev pub page_at_path : SiteFiles → List ℕ → Option (List ℕ)
page_at_path files url = option_and_then (λ path. page_of_file files (string_bytes files.site.top ++ path)) (after_front (with_slash (string_bytes files.site.origin)) url)

-- the top, if this URL lacks only its last slash, and otherwise that page
abbrev pub page_below : SiteFiles → List ℕ → Option (List ℕ)
page_below files url =
    if bytes_eq (with_slash (before_query url)) (string_bytes files.site.top) then Some (with_slash (before_query url)) else page_at_path files (before_query url)

-- this is reported only of links that lead outside the URL of the site, if that is known
abbrev pub page_for : Kind → Option (List ℕ) → Option (List ℕ)
page_for OutsideBase page = page
page_for _ page = None

-- ---- the rows

-- the row of a URL: its text, how many pages link to it, its kind, the folder in which it was looked up, and the page that may be meant
pub record LeavingRow : Type 0 where
  pub text : List ℕ
  pub pages : ℕ
  pub kind : Kind
  pub folder : Option (List ℕ)
  pub page : Option (List ℕ)

-- a row is one of such a link by its kind
abbrev pub leaving_row_in : Broken → List LeavingRow
leaving_row_in b =
    if is_leaving b.kind then record { text = string_bytes b.target; pages = b.pages; kind = b.kind; folder = option_map string_bytes b.hint; page = option_map string_bytes b.same_name } ∷ [] else []

abbrev pub leaving_in : List Broken → List LeavingRow
leaving_in all = flat_map leaving_row_in all

-- the kind of a row: by whether the URL was looked up in a folder, and whether the URL of the site is known
abbrev pub leaving_kind : Bool → Option (List ℕ) → Kind
leaving_kind rooted (Some folder) = NotInMap
leaving_kind true None = Leaves
leaving_kind false None = OutsideBase

abbrev pub leaving_row : List ℕ → ℕ → Bool → Option (List ℕ) → Option (List ℕ) → LeavingRow
leaving_row text pages rooted folder page = record { text = text; pages = pages; kind = leaving_kind rooted folder; folder = folder; page = page_for (leaving_kind rooted folder) page }

-- a URL and how many pages link to it, as in a row
abbrev pub outside_row : Bool → List MapName → SiteFiles → Linked → LeavingRow
outside_row rooted maps files l = leaving_row (outside_text rooted files l.result.url) l.pages rooted (folder_of maps l.result.url) (page_below files l.result.url)

-- those of the results outside the site, in order, each with the number of results that link to it
abbrev pub outside_linked : Bool → List MapName → SiteFiles → List PageResult → List PageResult → List LeavingRow
outside_linked rooted maps files results found = map (outside_row rooted maps files) (map (linked results) (outside_of files found))

abbrev pub row_at : List (List ℕ) → LeavingRow → List LeavingRow
row_at entries row = if is_ignored entries row.text then [] else row ∷ []

-- the rows of these results, without those that an entry matches
abbrev pub leaving_of : List (List ℕ) → Bool → List MapName → SiteFiles → List PageResult → List PageResult → List LeavingRow
leaving_of entries rooted maps files results found = flat_map (λ r. row_at entries (outside_row rooted maps files (linked results r))) (outside_of files found)

-- ---- which links lead to them

-- the number, unless an entry matches the text of the URL
abbrev pub outside_number : List (List ℕ) → ℕ → Outside → Option ℕ
outside_number entries number one = if is_ignored entries (string_bytes one.text) then None else Some number

-- the URLs that no entry matches, numbered among all of these, the first of which has this number
abbrev pub outside_targets : List (List ℕ) → ℕ → List Outside → List Target
outside_targets entries number [] = []
outside_targets entries number (one ∷ more) = to_number one.linked.result.now.url (outside_number entries number one) ++ outside_targets entries (number + 1) more

-- ---- how they are found

abbrev pub outside_at : Outside → LeavingRow
outside_at one = record { text = string_bytes one.text; pages = one.linked.pages; kind = one.kind; folder = option_map (λ f. f.now) one.folder; page = option_map string_bytes one.page }

abbrev pub shown_at : Outside → List ℕ
shown_at one = string_bytes one.text
