-- The URLs at which the crawl of a check starts.
use Rattle.std.specs.Prelude.{◌≡◌, ℕ, zero, suc, Bool, true, false, not, ◌&&◌, List, [], ◌∷◌, ◌++◌, length, map, Option, Some, None, Ok, if◌then◌else◌}
use Rattle.std.specs.Str.Lines.{lines}
use Rattle.crawl_keys.specs.CanonicalText.{resolve}
use Rattle.crawl_pages.specs.Pages.{is_missing}
use Rattle.crawl_pages.specs.declared.page.Page.{Page}
use Rattle.mercator_site.specs.Own.{AreOwn}
use Rattle.saved_pages.specs.SavedWeb.{page_of}
use Rattle.site_files.specs.Below.{begins}
use Rattle.site_files.specs.Files.{pages_of}
use Rattle.site_files.specs.Own.{start_at}
use Rattle.site_files.specs.declared.files.SiteFiles.{SiteFiles}

-- ---- the top or the seeds

-- whether a check leaves out the top, which has this page: if all documents are checked, and there is no page
abbrev pub is_left_out : Bool → Page → Bool
is_left_out reachable page = not reachable && is_missing page

-- the links at which the search of a check starts: the seeds; without seeds the empty link, which leads to the top itself, unless the
-- top is left out
abbrev pub starts : Bool → List (List ℕ) → List (List ℕ)
starts out (link ∷ links) = link ∷ links
starts true [] = []
starts false [] = [] ∷ []

-- the starts of the search in the saved web: the URLs of links on the top. All are below the top
pub record AreStarts (top web : List ℕ) (reachable : Bool) (links begun : List (List ℕ)) : Type 0 where
  pub resolved : map (resolve top) (starts (is_left_out reachable (page_of (lines web) top)) links) ≡ map Ok begun
  pub own : AreOwn top begun

-- ---- the documents

-- the URL, if there is one and it is below the top
abbrev pub if_own : List ℕ → Option (List ℕ) → List (List ℕ)
if_own top None = []
if_own top (Some url) = if begins top url then url ∷ [] else []

-- the own URLs of the files at which a check starts, among the pages with a lower number
abbrev pub documents_below : SiteFiles → List ℕ → ℕ → List (List ℕ)
documents_below site top zero = []
documents_below site top (suc number) = documents_below site top number ++ if_own top (start_at site number)

-- the same among all pages, in the order of their URLs; none if only what the search reaches is checked
abbrev pub documents_in : Bool → SiteFiles → List ℕ → List (List ℕ)
documents_in reachable site top = if reachable then [] else documents_below site top (length (pages_of site))
