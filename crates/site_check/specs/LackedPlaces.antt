-- No link to a missing anchor is left out: its location is in the row of the anchor.
use Rattle.std.specs.Prelude.{◌≡◌, ℕ, false, List, Contains, Option, Some, slice_get}
use Rattle.check_report.specs.declared.value.Broken.{Broken}
use Rattle.crawl_pages.specs.declared.page.PageResult.{PageResult}
use Rattle.document_links.specs.declared.anchors.PageAnchors.{PageAnchors}
use Rattle.document_links.specs.declared.places.TextPlace.{TextPlace}
use Rattle.site_check.specs.Broken.{is_ignored}
use Rattle.site_check.specs.Complete.{IsKept}
use Rattle.site_check.specs.Lacks.{IsLack, Lack, lack_shown}
use Rattle.site_check.specs.Located.{listed}
use Rattle.site_check.specs.Locations.{IsLinkAt, location_in}
use Rattle.site_check.specs.declared.leads.ListedLead.{ListedLead}
use Rattle.site_files.specs.declared.alias.Alias.{Alias}
use Rattle.site_files.specs.declared.files.SiteFiles.{SiteFiles}

-- a link to an anchor that its document lacks has this index among the links of its file. No entry of the ignore list matches the anchor
pub record IsIndexedLack (front : List ℕ) (entries : List (List ℕ)) (documents : List PageAnchors) (aliases : List Alias) (files : SiteFiles) (results : List PageResult) (lack : Lack) (index : ℕ) : Type 0 where
  pub is : IsLack documents aliases files results lack
  pub is_index : lack.index ≡ Some index
  pub reported : is_ignored entries (lack_shown front lack) ≡ false

-- the location of the link with this index on a page is in a row of the anchor that is shown with this text, unless an entry matches it
pub record IsLackKept (entries : List (List ℕ)) (files : SiteFiles) (reads : ℕ → Option (List ℕ) → Type 0) (rows : List Broken) (page : PageResult) (index : ℕ) (target : List ℕ) : Type 0 where
  pub name : List ℕ
  pub place : TextPlace
  pub own : Option (List ℕ)
  pub is_link : IsLinkAt files reads page index name place own
  pub kept : IsKept entries rows 1 target (location_in name place)

-- so it is for each link to a missing anchor
pub record HasAllLacks (front : List ℕ) (entries : List (List ℕ)) (documents : List PageAnchors) (aliases : List Alias) (files : SiteFiles) (results : List PageResult) (reads : ℕ → Option (List ℕ) → Type 0) (rows : List Broken) : Type 0 where
  pub each : (lack : Lack) (index : ℕ) (page : PageResult) → IsIndexedLack front entries documents aliases files results lack index → slice_get results lack.source ≡ Some page → IsLackKept entries files reads rows page index (lack_shown front lack)

-- ---- how it is known

-- among these links to targets is such a link. The texts are those of the list of missing anchors
pub record IsLackLed (front : List ℕ) (texts : List (List ℕ)) (leads : List ListedLead) (lack : Lack) (index : ℕ) : Type 0 where
  pub number : ℕ
  pub is_text : slice_get texts number ≡ Some (lack_shown front lack)
  pub has : Contains leads (listed 1 (record { source = lack.source; index = index; number = number }))

-- so are all of them
pub record HasLackLeads (front : List ℕ) (entries : List (List ℕ)) (documents : List PageAnchors) (aliases : List Alias) (files : SiteFiles) (results : List PageResult) (texts : List (List ℕ)) (leads : List ListedLead) : Type 0 where
  pub each : (lack : Lack) (index : ℕ) → IsIndexedLack front entries documents aliases files results lack index → IsLackLed front texts leads lack index
