-- How the locations of links are found: in their files, and for the rows of their targets.
use Rattle.std.specs.Prelude.{◌≡◌, ◌==◌, ◌+◌, ◌<◌, ℕ, zero, suc, Bool, true, false, ◌&&◌, if◌then◌else◌, List, [], ◌∷◌, ◌++◌, All, Contains, length, map, option_map, Option, Some, None, Result, Ok, Err, Vec, slice_get, string_bytes}
use Rattle.std.specs.Borrow.{Bor}
use Rattle.std.specs.declared.alloc.Global.{Global}
use Rattle.check_report.specs.declared.value.Broken.{Broken}
use Rattle.check_report.specs.declared.value.Kind.{Kind}
use Rattle.check_report.specs.declared.value.Kind.TheVariants as row
use Rattle.crawl_pages.specs.declared.page.PageResult.{PageResult}
use Rattle.document_links.specs.LinkUrls.{AreFileLinks}
use Rattle.document_links.specs.declared.places.TextPlace.{TextPlace}
use Rattle.document_links.specs.declared.text_kind.TextKind.{TextKind}
use Rattle.site_files.specs.Files.{Document, site_file}
use Rattle.site_files.specs.declared.files.SiteFile.{SiteFile}
use Rattle.site_files.specs.declared.files.SiteFiles.{SiteFiles}
use Rattle.site_check.specs.Anchors.{anchor_text}
use Rattle.site_check.specs.Broken.{shown}
use Rattle.site_check.specs.Invalid.{text_of}
use Rattle.site_check.specs.Leaving.{shown_at}
use Rattle.site_check.specs.Locations.{IsFileAt, IsLinkAt, LeadsFromFile, Location, ascends, comes_before, in_row, location_in, location_of}
use Rattle.site_check.specs.declared.invalid.InvalidText.{InvalidText}
use Rattle.site_check.specs.declared.leads.Lead.{Lead}
use Rattle.site_check.specs.declared.linked.Linked.{Linked}
use Rattle.site_check.specs.declared.leads.ListedLead.{ListedLead}
use Rattle.site_check.specs.declared.located.PageLeads.{PageLeads}
use Rattle.site_check.specs.declared.located.TargetPlace.{TargetPlace}
use Rattle.site_check.specs.declared.missing_anchors.MissingAnchor.{MissingAnchor}
use Rattle.site_check.specs.declared.outside.Outside.{Outside}

-- ---- links in files

abbrev pub document_of : SiteFile → Document
document_of file = site_file file.index file.kind file.name.now

-- the file is that of the result with this number and this URL
pub record IsFileOf (files : SiteFiles) (results : List PageResult) (source : ℕ) (url : List ℕ) (file : Document) : Type 0 where
  pub page : PageResult
  pub is_url : page.url ≡ url
  pub is_page : slice_get results source ≡ Some page
  pub at : IsFileAt files page.url file

-- ---- links to targets

-- a location, and the list and the number of the link's target
pub record TargetLocation : Type 0 where
  pub list : ℕ
  pub number : ℕ
  pub at : Location

abbrev pub placed_at : TargetPlace → TargetLocation
placed_at one = record { list = one.list; number = one.number; at = location_of one.place }

-- a link to a target of the list with this number
abbrev pub listed : ℕ → Lead → ListedLead
listed list lead = record { list = list; lead = lead }

-- links to targets of the list with this number are added
pub record AddsListed (list : ℕ) (old new : List ListedLead) : Type 0 where
  pub leads : List Lead
  pub is : new ≡ old ++ map (listed list) leads

-- a link to a target of the list of missing pages is one of these
abbrev pub IsListed : List Lead → ListedLead → Type 0
IsListed pages one = one.list ≡ 0 → Contains pages one.lead

-- the location of a link to a target
abbrev pub link_place : List ℕ → ListedLead → TextPlace → TargetLocation
link_place name one place = record { list = one.list; number = one.lead.number; at = location_in name place }

-- the same, if there is one
abbrev pub link_places : List ℕ → ListedLead → Option TextPlace → List TargetLocation
link_places name one None = []
link_places name one (Some place) = link_place name one place ∷ []

-- those of several links, the first of which is at the place with this number
abbrev pub places_from : List ℕ → List TextPlace → ℕ → List ListedLead → List TargetLocation
places_from name places number [] = []
places_from name places number (one ∷ more) = link_places name one (slice_get places number) ++ places_from name places (number + 1) more

abbrev pub index_of : ListedLead → ℕ
index_of one = one.lead.index

-- the result with this number has the link
abbrev pub is_of : ℕ → ListedLead → Bool
is_of source one = one.lead.source == source

-- the links of the first result among these, and those after them
pub record IsFirstPage (all : List ListedLead) (page : PageLeads) : Type 0 where
  pub split : all ≡ page.own.now ++ page.more.now
  pub own : All (λ one. one.lead.source ≡ page.source) page.own.now
  pub less : length page.more.now < length all

-- what is in a list, if there is one
abbrev pub items_of : {X E : Type 0} → Result (Vec X Global) E → List X
items_of (Ok list) = list.items
items_of (Err e) = []

-- a list with more elements, each of which is such a one
pub record Pushes {X : Type 0} (P : X → Type 0) (old new : List X) : Type 0 where
  pub more : List X
  pub is : new ≡ old ++ more
  pub each : All P more

-- a link with this URL leads to the missing page that is its target. Nothing is stated of links to other targets
abbrev pub LeadsAsSaid : List PageResult → List PageResult → Option (List ℕ) → ListedLead → Type 0
LeadsAsSaid results missing url one = one.list ≡ 0 → (target : PageResult) → slice_get missing one.lead.number ≡ Some target → LeadsFromFile results url target

-- so it is for each of these links, which have these URLs
abbrev pub AllLead : (Option (List ℕ) → ListedLead → Type 0) → List (Option (List ℕ)) → List ListedLead → Type 0
AllLead led_there urls [] = Unit {0}
AllLead led_there [] (one ∷ leads) = ⊥
AllLead led_there (url ∷ urls) (one ∷ leads) = led_there url one × AllLead led_there urls leads

-- the locations of these links in a file are pushed, and the links lead to their targets
pub record PushesPlaces (led_there : Option (List ℕ) → ListedLead → Type 0) (root : Option (List ℕ)) (page name : List ℕ) (kind : TextKind) (body : List ℕ) (leads : List ListedLead) (old new : List TargetLocation) : Type 0 where
  pub places : List TextPlace
  pub urls : List (Option (List ℕ))
  pub path : Option (Bor (List ℕ))
  pub is_root : option_map (λ p. p.now) path ≡ root
  pub are : AreFileLinks path page kind body (map index_of leads) places urls
  pub lead : AllLead led_there urls leads
  pub is : new ≡ old ++ places_from name places 0 leads

-- the location is that of one of these links, in the file of the result that has it
pub record IsTargetPlace (led_there : Option (List ℕ) → ListedLead → Type 0) (files : SiteFiles) (results : List PageResult) (reads : ℕ → Option (List ℕ) → Type 0) (leads : List ListedLead) (at : TargetLocation) : Type 0 where
  pub one : ListedLead
  pub is_one : Contains leads one
  pub page : PageResult
  pub is_page : slice_get results one.lead.source ≡ Some page
  pub name : List ℕ
  pub place : TextPlace
  pub own : Option (List ℕ)
  pub is_link : IsLinkAt files reads page one.lead.index name place own
  pub led : led_there own one
  pub is : at ≡ link_place name one place

-- ---- the locations of a row

-- the last of some locations comes before this one
abbrev pub comes_last : List Location → Location → Bool
comes_last [] at = true
comes_last (last ∷ []) at = comes_before last at
comes_last (first ∷ next ∷ more) at = comes_last (next ∷ more) at

-- with one location more, as a row with this target has it, if it comes after the last
abbrev pub put_last : List ℕ → List Location → Location → List Location
put_last target all at = if comes_last all at then all ++ in_row target at ∷ [] else all

-- the link leads to the target with this number of a list
abbrev pub is_to : ℕ → ℕ → TargetLocation → Bool
is_to list number one = one.list == list && one.number == number

-- one of these links, which leads to this target
pub record IsToTarget (all : List TargetLocation) (of number : ℕ) (one : TargetLocation) : Type 0 where
  pub list : one.list ≡ of
  pub is_number : one.number ≡ number
  pub is_one : Contains all one

-- the location is that of a link to this target, in a row
pub record IsRowPlace (all : List TargetLocation) (list number : ℕ) (target : List ℕ) (at : Location) : Type 0 where
  pub one : TargetLocation
  pub to : IsToTarget all list number one
  pub is : at ≡ in_row target one.at

-- the text of a result, as a row of its page has it
abbrev pub page_text : List ℕ → Linked → List ℕ
page_text front one = shown front one.result.now.url

-- the targets of four lists, as they are reported
pub record TargetTexts : Type 0 where
  pub pages : List (List ℕ)
  pub anchors : List (List ℕ)
  pub invalid : List (List ℕ)
  pub outside : List (List ℕ)

-- those that a check reports
abbrev pub target_texts : List ℕ → List Linked → List MissingAnchor → List InvalidText → List Outside → TargetTexts
target_texts front linked anchors invalid outside =
    record { pages = map (page_text front) linked; anchors = map anchor_text anchors; invalid = map text_of invalid; outside = map shown_at outside }

-- the number of the list with the target of a row
abbrev pub list_of : Kind → ℕ
list_of row.NoPage = 0
list_of row.NoAnchor = 1
list_of row.NotUrl = 2
list_of row.UnknownScheme = 2
list_of row.LocalFile = 2
list_of row.Leaves = 3
list_of row.OutsideBase = 3
list_of row.NotInMap = 3

-- the texts of the targets in the list with this number
abbrev pub texts_at : TargetTexts → ℕ → List (List ℕ)
texts_at texts zero = texts.pages
texts_at texts (suc zero) = texts.anchors
texts_at texts (suc (suc zero)) = texts.invalid
texts_at texts (suc (suc (suc more))) = texts.outside

-- what a row reports, and its locations
pub record LocatedRow : Type 0 where
  pub kind : Kind
  pub target : List ℕ
  pub places : List Location

abbrev pub located_row : Broken → LocatedRow
located_row b = record { kind = b.kind; target = string_bytes b.target; places = map location_of b.places.items }

-- a row, unless an entry matches its target
abbrev pub row_unless : Bool → Kind → List ℕ → List Location → List LocatedRow
row_unless true kind target places = []
row_unless false kind target places = record { kind = kind; target = target; places = places } ∷ []

-- the row is that of a target, and each of its locations is that of a link to this target. They are in order, each once
pub record IsLocatedRow (all : List TargetLocation) (texts : TargetTexts) (b : LocatedRow) : Type 0 where
  pub number : ℕ
  pub is_target : slice_get (texts_at texts (list_of b.kind)) number ≡ Some b.target
  pub each : All (IsRowPlace all (list_of b.kind) number b.target) b.places
  pub order : ascends b.places ≡ true

-- the new rows are such rows if the old ones are. `own` has the texts of the list with this number
pub record KeepsRows (all : List TargetLocation) (list : ℕ) (own : List (List ℕ)) (old new : List LocatedRow) : Type 0 where
  pub keeps : (texts : TargetTexts) → texts_at texts list ≡ own → All (IsLocatedRow all texts) old → All (IsLocatedRow all texts) new
