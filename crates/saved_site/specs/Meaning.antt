-- The page that a crawl finds at a URL of a site, and why a site has no saved web.
use Rattle.std.specs.Prelude.{◌≡◌, ℕ, List, [], ◌∷◌, if◌then◌else◌, bytes_eq}
use Rattle.std.specs.Str.Lines.{lines}
use Rattle.saved_pages.specs.SavedWeb.{link_url, found_page, page_of}
use Rattle.saved_pages.specs.WebErrors.{IsSound}
use Rattle.crawl_pages.specs.declared.page.Page.{Page}
use Rattle.crawl_pages.specs.declared.page.Page.TheVariants as page
use Rattle.site_files.specs.declared.error.SiteError.{SiteError}
use Rattle.site_files.specs.declared.error.SiteError.TheVariants as wrong
use Rattle.saved_site.specs.Pages.{ascending, web_text}
use Rattle.saved_site.specs.declared.page.Under.{Under}
use Rattle.saved_site.specs.declared.page.Under.TheVariants.{Links, Moved}
use Rattle.saved_site.specs.declared.page.SitePage.{SitePage}

-- what is found under a page's URL
abbrev pub under_page : List ℕ → Under → Page
under_page url (Links texts) = found_page url texts
under_page url (Moved text) = page.Moved (link_url url text)

-- the page of the site that has this URL
abbrev pub page_in : List SitePage → List ℕ → Page
page_in [] url = page.Missing
page_in (first ∷ more) url = if bytes_eq first.url url then under_page url first.under else page_in more url

-- the bytes are the saved web of some pages, which ascend, each once: they are read as a saved web, which has at each URL the page
-- that these have
pub record IsSiteWeb (bytes : List ℕ) : Type 0 where
  pub pages : List SitePage
  pub written : bytes ≡ web_text (ascending pages)
  pub sound : IsSound (lines bytes)
  pub read : (url : List ℕ) → page_of (lines bytes) url ≡ page_in (ascending pages) url

-- ---- errors

-- the saved web is too large, or an allocation failed
abbrev pub IsOfWeb : SiteError → Type 0
IsOfWeb wrong.TooLarge = Unit {0}
IsOfWeb wrong.NoMemory = Unit {0}
IsOfWeb error = ⊥
