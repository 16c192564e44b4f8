-- The locations in the rows of a check: those of links, in the files of the pages that have them.
use Rattle.std.specs.Prelude.{◌≡◌, ◌==◌, ◌⊎◌, ℕ, Bool, true, ◌&&◌, ◌||◌, if◌then◌else◌, List, [], ◌∷◌, All, Contains, map, nat_lt, Option, Some, None, option_map, slice_get, string_bytes, bytes_eq}
use Rattle.std.specs.Borrow.{Bor}
use Rattle.std.specs.Cmp.Lexicographic.{slice_cmp}
use Rattle.std.specs.Ordering.{is_lt, nat_cmp}
use Rattle.check_report.specs.declared.value.Broken.{Broken}
use Rattle.check_report.specs.declared.value.Kind.{Kind}
use Rattle.check_report.specs.declared.value.Kind.TheVariants as row
use Rattle.check_report.specs.declared.value.Place.{Place}
use Rattle.crawl_pages.specs.Pages.{is_missing}
use Rattle.crawl_pages.specs.declared.page.Page.TheVariants.{Found, Moved}
use Rattle.crawl_pages.specs.declared.page.PageResult.{PageResult}
use Rattle.document_links.specs.LinkUrls.{AreFileLinks}
use Rattle.document_links.specs.declared.places.TextPlace.{TextPlace}
use Rattle.document_links.specs.declared.positions.LinkPlaces.{LinkPlaces}
use Rattle.document_links.specs.declared.text_kind.TextKind.{TextKind}
use Rattle.document_links.specs.declared.text_kind.TextKind.TheVariants as text
use Rattle.html_links.specs.declared.context.Syntax.TheVariants as syntax
use Rattle.site_files.specs.Entries.{IsEntryAt}
use Rattle.site_files.specs.Files.{Document, document_at}
use Rattle.site_files.specs.Server.{after_front}
use Rattle.site_files.specs.declared.files.SiteFiles.{SiteFiles}
use Rattle.site_files.specs.declared.kinds.FileKind.{FileKind}
use Rattle.site_files.specs.declared.kinds.FileKind.TheVariants.{Html, Xml, Svg, Style, Feed, UrlList, Unknown}
use Rattle.site_check.specs.Broken.{shown}
use Rattle.site_check.specs.Leads.{indices_in}

-- ---- locations

-- a location, and the link as it is written there
pub record Location : Type 0 where
  pub file : List ℕ
  pub line : ℕ
  pub column : ℕ
  pub written : Option (List ℕ)

abbrev pub location_of : Place → Location
location_of place = record { file = string_bytes place.file; line = place.line; column = place.column; written = option_map string_bytes place.written }

-- a text, unless it is empty
abbrev pub if_any : List ℕ → Option (List ℕ)
if_any [] = None
if_any (byte ∷ more) = Some (byte ∷ more)

-- a location in the file with this name
abbrev pub location_in : List ℕ → TextPlace → Location
location_in name place = record { file = name; line = place.line; column = place.column; written = if_any (string_bytes place.written) }

-- the link as written, unless that is how the target is reported
abbrev pub unless_same : List ℕ → Option (List ℕ) → Option (List ℕ)
unless_same target None = None
unless_same target (Some written) = if bytes_eq written target then None else Some written

-- a location as a row with this target has it
abbrev pub in_row : List ℕ → Location → Location
in_row target at = record { file = at.file; line = at.line; column = at.column; written = unless_same target at.written }

-- ---- their order

-- one location comes before another in the same file
abbrev pub is_earlier : Location → Location → Bool
is_earlier a b = nat_lt a.line b.line || (a.line == b.line && nat_lt a.column b.column)

-- one location comes before another: by file, line and column
abbrev pub comes_before : Location → Location → Bool
comes_before a b = is_lt (slice_cmp nat_cmp a.file b.file) || (bytes_eq a.file b.file && is_earlier a b)

-- each of these comes before the next, and the first after this one
abbrev pub ascends_after : Location → List Location → Bool
ascends_after last [] = true
ascends_after last (at ∷ more) = comes_before last at && ascends_after at more

-- each location comes before the next
abbrev pub ascends : List Location → Bool
ascends [] = true
ascends (at ∷ more) = ascends_after at more

-- ---- links in files

-- how a file of this kind is written. `styles` is whether the links of styles count
abbrev pub text_kind : Bool → FileKind → TextKind
text_kind styles Html = text.Document syntax.Html styles
text_kind styles Xml = text.Document syntax.Xhtml styles
text_kind styles Svg = text.Document syntax.Xhtml styles
text_kind styles Style = text.StyleSheet
text_kind styles Feed = text.Feed
text_kind styles UrlList = text.UrlList
text_kind styles Unknown = text.Document syntax.Html styles

-- the file is that of the page at a URL
pub record IsFileAt (files : SiteFiles) (url : List ℕ) (file : Document) : Type 0 where
  pub number : ℕ
  pub is_page : IsEntryAt files.pages url number
  pub is_file : document_at files number ≡ Some file

-- the path of the top, if absolute paths are below it
abbrev pub root_of : SiteFiles → Option (List ℕ)
root_of files = if files.rules.now.rooted then after_front (string_bytes files.site.origin) (string_bytes files.site.top) else None

-- the link with this index among the links of a file is at this place of the file's text, and has this URL on the file's page. `reads` is
-- what the file can contain
pub record IsLinkAt (files : SiteFiles) (reads : ℕ → Option (List ℕ) → Type 0) (page : PageResult) (index : ℕ) (name : List ℕ) (place : TextPlace) (url : Option (List ℕ)) : Type 0 where
  pub file : Document
  pub is_file : IsFileAt files page.url file
  pub is_name : file.name ≡ name
  pub body : List ℕ
  pub read : reads file.index (Some body)
  pub root : Option (Bor (List ℕ))
  pub is_root : option_map (λ path. path.now) root ≡ root_of files
  pub is_place : AreFileLinks root page.url (text_kind files.rules.now.styles file.kind) body (index ∷ []) (place ∷ []) (url ∷ [])

-- ---- the targets of links

-- a link of a page that was found: its URL, and its index among the links of the page's file
pub record HasLink (places : List LinkPlaces) (page : PageResult) (url : List ℕ) (index : ℕ) : Type 0 where
  pub links : List (List ℕ)
  pub skipped : ℕ
  pub found : page.page ≡ Found links skipped
  pub at : ℕ
  pub is_link : slice_get links at ≡ Some url
  pub is_index : slice_get (indices_in places page.url) at ≡ Some index

-- a link to the URL leads to the page at another, directly or by a redirect
abbrev pub EndsAtUrl : List PageResult → List ℕ → List ℕ → Type 0
EndsAtUrl results url to = (url ≡ to) ⊎ Contains results (record { url = url; page = Moved (Some to) })

-- the other URL is that of this result
abbrev pub EndsAt : List PageResult → List ℕ → PageResult → Type 0
EndsAt results url one = EndsAtUrl results url one.url

-- the link that has this URL in the file leads to the page of this result, directly or by a redirect
pub record LeadsFromFile (results : List PageResult) (own : Option (List ℕ)) (one : PageResult) : Type 0 where
  pub url : List ℕ
  pub is_url : own ≡ Some url
  pub ends : EndsAt results url one

-- the link leads to a missing page that a row reports with this text, by the crawl's link and by the URL that it has in the file
pub record LeadsToPage (front : List ℕ) (places : List LinkPlaces) (results : List PageResult) (target : List ℕ) (page : PageResult) (index : ℕ) (own : Option (List ℕ)) : Type 0 where
  pub url : List ℕ
  pub link : HasLink places page url index
  pub one : PageResult
  pub is_one : Contains results one
  pub missing : is_missing one.page ≡ true
  pub ends : EndsAt results url one
  pub from_file : LeadsFromFile results own one
  pub is_target : target ≡ shown front one.url

-- the link leads to what a row of this kind reports. This is known of missing pages only
abbrev pub LeadsTo : List ℕ → List LinkPlaces → List PageResult → Kind → List ℕ → PageResult → ℕ → Option (List ℕ) → Type 0
LeadsTo front places results row.NoPage target page index own = LeadsToPage front places results target page index own
LeadsTo front places results _ target page index own = Unit {0}

-- ---- rows

-- the location is that of a link of some page, which leads to what the row reports
pub record IsRowLink (front : List ℕ) (places : List LinkPlaces) (files : SiteFiles) (results : List PageResult) (reads : ℕ → Option (List ℕ) → Type 0) (kind : Kind) (target : List ℕ) (at : Location) : Type 0 where
  pub page : PageResult
  pub is_page : Contains results page
  pub index : ℕ
  pub own : Option (List ℕ)
  pub leads : LeadsTo front places results kind target page index own
  pub name : List ℕ
  pub place : TextPlace
  pub is_link : IsLinkAt files reads page index name place own
  pub is : at ≡ in_row target (location_in name place)

-- so is each location of the row. They are in order, each once
pub record IsLocated (front : List ℕ) (places : List LinkPlaces) (files : SiteFiles) (results : List PageResult) (reads : ℕ → Option (List ℕ) → Type 0) (b : Broken) : Type 0 where
  pub links : All (IsRowLink front places files results reads b.kind (string_bytes b.target)) (map location_of b.places.items)
  pub order : ascends (map location_of b.places.items) ≡ true
