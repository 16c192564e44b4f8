-- The pages of a site as a source: what a crawl finds at each URL.
use Rattle.std.specs.Prelude.{◌≡◌, ℕ, true, List, [], ◌∷◌, ◌++◌, All, if◌then◌else◌, Option, Some, None, is_some, bytes_eq}
use Rattle.std.specs.Str.Lines.{lines}
use Rattle.saved_pages.specs.SavedWeb.{page_of}
use Rattle.crawl_pages.specs.declared.page.Page.{Page}
use Rattle.crawl_pages.specs.declared.page.Page.TheVariants as page
use Rattle.saved_site.specs.Below.{IsWebBelow, is_next}
use Rattle.saved_site.specs.Meaning.{IsSiteWeb, under_page}
use Rattle.saved_site.specs.Pages.{IsPage}
use Rattle.saved_site.specs.declared.page.SitePage.{SitePage}

-- a URL, and the page that is found there
abbrev pub PageFound : Type 0
PageFound = List ℕ × Page

-- the first page that is found at a URL
abbrev pub page_at : List PageFound → List ℕ → Page
page_at [] url = page.Missing
page_at (first ∷ more) url = if bytes_eq first.0 url then first.1 else page_at more url

-- some bytes are a site's saved web, with no page but below the top, and at each URL is the page that this web has there
pub record IsSiteSource (top : List ℕ) (pages : List PageFound) : Type 0 where
  pub bytes : List ℕ
  pub web : IsSiteWeb bytes
  pub below : IsWebBelow top bytes
  pub same : (url : List ℕ) → page_at pages url ≡ page_of (lines bytes) url

-- ---- the pages of a site

-- likewise, if there is one
abbrev pub page_with : List PageFound → List ℕ → Option Page
page_with [] url = None
page_with (first ∷ more) url = if bytes_eq first.0 url then Some first.1 else page_with more url

-- what is found at the URL of a page
abbrev pub found_of : SitePage → PageFound
found_of page = (page.url, under_page page.url page.under)

-- what is found is a page of the site's web, and it is served
pub record IsKept (serves : SitePage → Type 0) (top : List ℕ) (found : PageFound) : Type 0 where
  pub page : SitePage
  pub is : found ≡ found_of page
  pub fit : IsPage page
  pub kept : is_next top [] page.url ≡ true
  pub served : ∥ serves page ∥₁

abbrev pub AreKept : (SitePage → Type 0) → List ℕ → List PageFound → Type 0
AreKept serves top pages = All (IsKept serves top) pages

-- with a page more, unless its URL has one or is not kept
abbrev pub with_found : List ℕ → List PageFound → PageFound → List PageFound
with_found top pages found =
    if is_next top [] found.0 then (if is_some (page_with pages found.0) then pages else pages ++ found ∷ []) else pages
