-- No link to a missing page or a missing anchor is left out: its location is in the row of the page or the anchor.
use Rattle.std.specs.Prelude.{◌≡◌, ◌==◌, ◌<◌, ◌%◌, ◌+◌, ◌⊎◌, ℕ, Bool, true, false, not, ◌&&◌, List, [], ◌∷◌, Contains, length, map, nat_lt, Option, Some, slice_get, string_bytes, bytes_eq}
use Rattle.check_report.specs.declared.value.Broken.{Broken}
use Rattle.crawl_pages.specs.declared.page.Page.TheVariants.{Found}
use Rattle.crawl_pages.specs.declared.page.PageResult.{PageResult}
use Rattle.document_links.specs.declared.places.TextPlace.{TextPlace}
use Rattle.document_links.specs.declared.positions.LinkPlaces.{LinkPlaces}
use Rattle.site_files.specs.declared.alias.Alias.{Alias}
use Rattle.site_files.specs.declared.files.SiteFiles.{SiteFiles}
use Rattle.site_check.specs.Aliases.{is_alias}
use Rattle.site_check.specs.Anchors.{anchor_text}
use Rattle.site_check.specs.Broken.{is_place_ignored, shown}
use Rattle.site_check.specs.Leads.{indices_in, is_reported}
use Rattle.site_check.specs.Located.{TargetLocation, link_place, list_of, page_text}
use Rattle.site_check.specs.Locations.{EndsAt, IsLinkAt, LeadsFromFile, Location, location_in, location_of}
use Rattle.site_check.specs.declared.linked.Linked.{Linked}
use Rattle.site_check.specs.declared.leads.ListedLead.{ListedLead}
use Rattle.site_check.specs.declared.missing_anchors.MissingAnchor.{MissingAnchor}

-- ---- each link to a missing page is in its row

-- two locations are at the same character of the same file
abbrev pub is_same_point : Location → Location → Bool
is_same_point a b = bytes_eq a.file b.file && (a.line == b.line && a.column == b.column)

-- one of these locations is at the same character of the same file as this one
pub record HasPoint (all : List Location) (at : Location) : Type 0 where
  pub own : Location
  pub is_own : Contains all own
  pub same : is_same_point own at ≡ true

-- the row is that of the target of this list that is shown with this text
abbrev pub is_row_of : ℕ → List ℕ → Broken → Bool
is_row_of list target b = list_of b.kind == list && bytes_eq (string_bytes b.target) target

-- such a row has a location there
pub record IsInRow (rows : List Broken) (list : ℕ) (target : List ℕ) (at : Location) : Type 0 where
  pub row : Broken
  pub is_row : Contains rows row
  pub is_its : is_row_of list target row ≡ true
  pub has : HasPoint (map location_of row.places.items) at

-- so it has, unless an entry of the ignore list matches the location
abbrev pub IsKept : List (List ℕ) → List Broken → ℕ → List ℕ → Location → Type 0
IsKept entries rows list target at = (is_place_ignored entries target at.file ≡ true) ⊎ IsInRow rows list target at

-- each URL is that of one result
pub record AreOnce (results : List PageResult) : Type 0 where
  pub same : (a b : PageResult) → Contains results a → Contains results b → a.url ≡ b.url → a ≡ b

-- the link with this number on a page that was found leads to this URL
pub record HasUrlAt (page : PageResult) (at : ℕ) (url : List ℕ) : Type 0 where
  pub links : List (List ℕ)
  pub skipped : ℕ
  pub found : page.page ≡ Found links skipped
  pub is_link : slice_get links at ≡ Some url

-- the link with this number on a page leads to a missing page, directly or by a redirect. No entry of the ignore list matches the missing
-- page. The linking page is not that of an alias, whose only link, to the own URL of its file, is in no file. And the rules of the site ask
-- for the positions of links
pub record IsBrokenLink (front : List ℕ) (entries : List (List ℕ)) (aliases : List Alias) (files : SiteFiles) (results : List PageResult) (page : PageResult) (at : ℕ) (one : PageResult) : Type 0 where
  pub is_page : Contains results page
  pub is_own : is_alias aliases page.url ≡ false
  pub positions : files.rules.now.places ≡ true
  pub url : List ℕ
  pub link : HasUrlAt page at url
  pub is_one : Contains results one
  pub ends : EndsAt results url one
  pub reported : is_reported front entries one ≡ true

-- the link with this number on a page has an index among the links of the page's file. The link with this index leads to the missing page,
-- too, and its location is in a row of this page, unless an entry matches it
pub record IsLinkKept (front : List ℕ) (entries : List (List ℕ)) (places : List LinkPlaces) (files : SiteFiles) (results : List PageResult) (reads : ℕ → Option (List ℕ) → Type 0) (rows : List Broken) (page : PageResult) (at : ℕ) (one : PageResult) : Type 0 where
  pub index : ℕ
  pub is_index : slice_get (indices_in places page.url) at ≡ Some index
  pub name : List ℕ
  pub place : TextPlace
  pub own : Option (List ℕ)
  pub is_link : IsLinkAt files reads page index name place own
  pub from_file : LeadsFromFile results own one
  pub kept : IsKept entries rows 0 (shown front one.url) (location_in name place)

-- so it is for each link to a missing page. The links of a page have their indices in order, so two links have two indices
pub record HasAllLinks (front : List ℕ) (entries : List (List ℕ)) (aliases : List Alias) (places : List LinkPlaces) (files : SiteFiles) (results : List PageResult) (reads : ℕ → Option (List ℕ) → Type 0) (rows : List Broken) : Type 0 where
  pub each : (page : PageResult) (at : ℕ) (one : PageResult) → IsBrokenLink front entries aliases files results page at one → IsLinkKept front entries places files results reads rows page at one
  pub in_order : (page : PageResult) (at later : ℕ) (one : PageResult) → IsBrokenLink front entries aliases files results page at one → at < later → (index next : ℕ) → slice_get (indices_in places page.url) at ≡ Some index → slice_get (indices_in places page.url) later ≡ Some next → index < next

-- ---- how it is known

-- each of these is less than the next, and the first is at least this
abbrev pub rises_from : ℕ → List ℕ → Bool
rises_from least [] = true
rises_from least (index ∷ more) = not (nat_lt index least) && rises_from (index + 1) more

-- each link of a page has an index in the list for its URL, unless the page is that of an alias. The indices are in order
pub record IsIndexed (indices_of : List ℕ → List ℕ) (aliases : List Alias) (page : PageResult) : Type 0 where
  pub each : is_alias aliases page.url ≡ false → (at : ℕ) (url : List ℕ) → HasUrlAt page at url → (at < length (indices_of page.url)) × (rises_from 0 (indices_of page.url) ≡ true)

-- the same for the links to targets, if the rules ask for the positions of links
pub record HasIndices (positions : Bool) (number_of : List ℕ → Option ℕ) (indices_of : List ℕ → List ℕ) (aliases : List Alias) (page : PageResult) : Type 0 where
  pub each : positions ≡ true → is_alias aliases page.url ≡ false → (at : ℕ) (url : List ℕ) → HasUrlAt page at url → (number : ℕ) → number_of url ≡ Some number → (at < length (indices_of page.url)) × (rises_from 0 (indices_of page.url) ≡ true)

-- of a number of threads the one with the number `rest` reads the file of the result with the number `source`
abbrev pub is_taken : ℕ → ℕ → ℕ → Bool
is_taken of rest source = nat_lt 0 of && (source % of == rest)

-- the location of a link of this page is one of these, and the link leads to its target if this is a missing page
pub record IsPlaced (led_there : Option (List ℕ) → ListedLead → Type 0) (files : SiteFiles) (reads : ℕ → Option (List ℕ) → Type 0) (all : List TargetLocation) (one : ListedLead) (page : PageResult) : Type 0 where
  pub name : List ℕ
  pub place : TextPlace
  pub own : Option (List ℕ)
  pub is_link : IsLinkAt files reads page one.lead.index name place own
  pub led : led_there own one
  pub is_in : Contains all (link_place name one place)

-- so it is for the page that has the link
pub record HasPlace (led_there : Option (List ℕ) → ListedLead → Type 0) (files : SiteFiles) (results : List PageResult) (reads : ℕ → Option (List ℕ) → Type 0) (all : List TargetLocation) (one : ListedLead) : Type 0 where
  pub placed : (page : PageResult) → slice_get results one.lead.source ≡ Some page → IsPlaced led_there files reads all one page

-- the same, if the thread with the number `rest` reads the file
pub record HasTaken (led_there : Option (List ℕ) → ListedLead → Type 0) (files : SiteFiles) (results : List PageResult) (reads : ℕ → Option (List ℕ) → Type 0) (of rest : ℕ) (all : List TargetLocation) (one : ListedLead) : Type 0 where
  pub has : is_taken of rest one.lead.source ≡ true → HasPlace led_there files results reads all one

-- the location of a link to a missing page or a missing anchor is in the row of this page or this anchor, unless an entry matches it
pub record IsKeptPlace (front : List ℕ) (entries : List (List ℕ)) (linked : List Linked) (anchors : List MissingAnchor) (rows : List Broken) (at : TargetLocation) : Type 0 where
  pub kept : at.list ≡ 0 → (one : Linked) → slice_get linked at.number ≡ Some one → IsKept entries rows 0 (page_text front one) at.at
  pub anchor : at.list ≡ 1 → (one : MissingAnchor) → slice_get anchors at.number ≡ Some one → IsKept entries rows 1 (anchor_text one) at.at
