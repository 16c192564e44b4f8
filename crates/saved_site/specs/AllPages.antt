-- No page of a site is left out.
use Rattle.std.specs.Prelude.{◌≡◌, ◌<◌, ◌||◌, ℕ, Bool, false, not, true, List, Option, Some, None, is_some, length}
use Rattle.std.specs.Str.Lines.{lines}
use Rattle.saved_pages.specs.SavedWeb.{page_of}
use Rattle.document_links.specs.Texts.{fits}
use Rattle.site_files.specs.Files.{pages_of, url_of}
use Rattle.site_files.specs.declared.files.SiteFiles.{SiteFiles}
use Rattle.saved_site.specs.Linked.{PageFound, page_at, page_with}
use Rattle.saved_site.specs.Served.{AreServed, IsServedPage}

-- a page is found at the URL, if there is one that fits in a line
abbrev pub has_at : List PageFound → Option (List ℕ) → Bool
has_at pages None = true
has_at pages (Some url) = not (fits 5 url) || is_some (page_with pages url)

-- the page with this number is found at its URL
abbrev pub has_page : SiteFiles → List PageFound → ℕ → Bool
has_page files pages number = has_at pages (url_of files number)

-- so is each page of the site
abbrev pub HasAllPages : SiteFiles → List PageFound → Type 0
HasAllPages files pages = (number : ℕ) → number < length (pages_of files) → has_page files pages number ≡ true

-- some page of the site is not
abbrev pub LacksPage : SiteFiles → List PageFound → Type 0
LacksPage files pages = (number : ℕ) × (number < length (pages_of files)) × (has_page files pages number ≡ false)

-- the pages of a saved web are those that a server of these files returns, and each page of the files is among them. `reads` is what a
-- file can contain, by its index
pub record IsWebOf (files : SiteFiles) (reads : ℕ → Option (List ℕ) → Type 0) (web : List ℕ) : Type 0 where
  pub pages : List PageFound
  pub same : (url : List ℕ) → page_of (lines web) url ≡ page_at pages url
  pub served : AreServed (IsServedPage files reads) pages
  pub all : HasAllPages files pages
