-- The pages that a server returns for their URLs, and the anchors of the documents among them.
use Rattle.std.specs.Prelude.{◌≡◌, ℕ, List, Option, Some, None, IfSome, MatchOption, option_map}
use Rattle.std.specs.List.Sorted.{IsStrictlySortedBy}
use Rattle.crawl_pages.specs.declared.page.Page.{Page}
use Rattle.document_links.specs.declared.anchors.PageAnchors.{PageAnchors}
use Rattle.site_files.specs.Firsts.{cmp_keys, first_with}
use Rattle.site_files.specs.declared.alias.Alias.{Alias}
use Rattle.site_files.specs.Entries.{HasResponse}
use Rattle.site_files.specs.Serving.{served_at}
use Rattle.site_files.specs.declared.files.SiteFiles.{SiteFiles}
use Rattle.saved_site.specs.Linked.{PageFound, page_with}
use Rattle.saved_site.specs.Meaning.{under_page}
use Rattle.saved_site.specs.TaskPages.{IsTaskPage}
use Rattle.saved_site.specs.declared.page.SiteAnchors.{SiteAnchors}
use Rattle.saved_site.specs.declared.page.SitePage.{SitePage}

-- the page is the one that a server returns for its URL. `reads` is what a file can contain, by its index
pub record IsServedPage (files : SiteFiles) (reads : ℕ → Option (List ℕ) → Type 0) (page : SitePage) : Type 0 where
  pub url : List ℕ
  pub number : ℕ
  pub served : HasResponse files.pages (served_at files url) number
  pub is : IsTaskPage files reads number url page

-- what is found at a URL is such a page
pub record IsServedAt (serves : SitePage → Type 0) (url : List ℕ) (found : Page) : Type 0 where
  pub page : SitePage
  pub own : page.url ≡ url
  pub is : found ≡ under_page url page.under
  pub served : ∥ serves page ∥₁

-- at each URL, if something is found there
abbrev pub AreServed : (SitePage → Type 0) → List PageFound → Type 0
AreServed serves pages = (url : List ℕ) → IfSome (page_with pages url) (IsServedAt serves url)

-- ---- anchors

abbrev pub entry_with : List ℕ → SiteAnchors → PageAnchors
entry_with url own = record { url = url; anchors = own.anchors; targets = own.targets }

-- the anchors of a page, with its URL
abbrev pub entry_of : SitePage → Option PageAnchors
entry_of page = option_map (entry_with page.url) page.anchors

-- the first of these with a URL
abbrev pub entry_at : List PageAnchors → List ℕ → Option PageAnchors
entry_at entries url = first_with (λ entry. entry.url) (λ entry. Some entry) None entries url

-- what is found at a URL is a page that a server returns, which has these anchors
pub record IsServedWith (serves : SitePage → Type 0) (url : List ℕ) (entry : Option PageAnchors) (found : Page) : Type 0 where
  pub page : SitePage
  pub own : page.url ≡ url
  pub is : found ≡ under_page url page.under
  pub anchors : entry_of page ≡ entry
  pub served : ∥ serves page ∥₁

-- the anchors of the page at each URL are these with that URL. If the page has none, or no page is found there, there are none with it
abbrev pub HaveAnchors : (SitePage → Type 0) → List PageFound → List PageAnchors → Type 0
HaveAnchors serves pages entries = (url : List ℕ) → MatchOption (page_with pages url) (entry_at entries url ≡ None) (IsServedWith serves url (entry_at entries url))

-- anchors, and aliases, are in the order of their URLs, each URL once
abbrev pub AnchorsAscend : List PageAnchors → Type 0
AnchorsAscend entries = IsStrictlySortedBy (cmp_keys (λ entry. entry.url)) entries

abbrev pub AliasesAscend : List Alias → Type 0
AliasesAscend aliases = IsStrictlySortedBy (cmp_keys (λ alias. alias.url)) aliases
