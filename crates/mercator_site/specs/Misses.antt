-- The missing pages of a crawl: a server of the site's files returns nothing for them.
use Rattle.std.specs.Prelude.{◌≡◌, ◌⊎◌, ℕ, Bool, true, false, not, List, Option, Some, None}
use Rattle.crawl_pages.specs.Pages.{is_missing}
use Rattle.crawl_pages.specs.declared.page.PageResult.{PageResult}
use Rattle.document_links.specs.Texts.{fits}
use Rattle.site_files.specs.Entries.{HasResponse}
use Rattle.site_files.specs.Own.{own_url_at}
use Rattle.site_files.specs.Pages.{Missing}
use Rattle.site_files.specs.Serving.{served_at}
use Rattle.site_files.specs.declared.files.SiteFiles.{SiteFiles}

-- a URL that is too long for a line
abbrev pub is_long : Option (List ℕ) → Bool
is_long None = false
is_long (Some url) = not (fits 5 url)

-- the page with this number is a file whose own URL is too long for a line. Such a file has no page in a saved web
abbrev pub is_long_file : SiteFiles → ℕ → Bool
is_long_file site number = is_long (own_url_at site number)

-- a server returns a page for the URL, which is such a file, or none
pub record IsReturned (site : SiteFiles) (url : List ℕ) (long : Bool) : Type 0 where
  pub number : ℕ
  pub returned : HasResponse site.pages (served_at site url) number
  pub is : is_long_file site number ≡ long

-- a saved web may have no page at the URL: a server returns nothing for it, or a file whose own URL is too long
abbrev pub IsMissable : SiteFiles → List ℕ → Type 0
IsMissable site url = (served_at site url ≡ Missing) ⊎ IsReturned site url true

-- if the result is missing, and its URL is not too long itself, it is rightly so
abbrev pub IsRightlyMissed : SiteFiles → PageResult → Type 0
IsRightlyMissed site r = is_missing r.page ≡ true → fits 5 r.url ≡ true → IsMissable site r.url

-- the result is missing, but a server returns a page for its URL, and neither URL is too long
pub record IsFalseMiss (site : SiteFiles) (r : PageResult) : Type 0 where
  pub missing : is_missing r.page ≡ true
  pub short : fits 5 r.url ≡ true
  pub returned : IsReturned site r.url false
