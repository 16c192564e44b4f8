-- The external links of a site.
use Rattle.std.specs.Prelude.{◌≡◌, ℕ, ◌+◌, not, List, [], ◌∷◌, ◌++◌, if◌then◌else◌, filter, string_bytes, flat_map, IsPermutation, IsSortedByKey, bytes_eq}
use Rattle.std.specs.Cmp.Lexicographic.{slice_cmp}
use Rattle.std.specs.Ordering.{nat_cmp}
use Rattle.check_report.specs.declared.value.External.{External}
use Rattle.crawl_pages.specs.Pages.{links_of}
use Rattle.crawl_pages.specs.declared.page.PageResult.{PageResult}
use Rattle.site_files.specs.Below.{begins}
use Rattle.site_files.specs.declared.files.SiteFiles.{SiteFiles}

-- the URL of the root of the site's host: the scheme, the host and the port of the site, and a slash
abbrev pub host_root : SiteFiles → List ℕ
host_root files = string_bytes files.site.origin ++ 47 ∷ []

-- the URLs that do not begin with the root
abbrev pub outside : List ℕ → List (List ℕ) → List (List ℕ)
outside root urls = filter (λ url. not (begins root url)) urls

-- those among the links of the pages, each as often as it occurs
abbrev pub outside_links : List ℕ → List PageResult → List (List ℕ)
outside_links root pages = flat_map (λ r. outside root (links_of r.page)) pages

-- a URL and the number of links to it
pub record Row : Type 0 where
  pub url : List ℕ
  pub links : ℕ

abbrev pub row_of : External → Row
row_of e = record { url = string_bytes e.url; links = e.links }

abbrev pub row : List ℕ → ℕ → Row
row url links = record { url = url; links = links }

-- the rows of runs of equal URLs, after a run of this URL with this number of links
abbrev pub runs_from : List ℕ → ℕ → List (List ℕ) → List Row
runs_from url links [] = row url links ∷ []
runs_from url links (next ∷ more) = if bytes_eq next url then runs_from url (links + 1) more else row url links ∷ runs_from next 1 more

abbrev pub runs : List (List ℕ) → List Row
runs [] = []
runs (url ∷ more) = runs_from url 1 more

-- these are the rows of the external links, in byte order
pub record AreExternal (root : List ℕ) (pages : List PageResult) (rows : List Row) : Type 0 where
  pub urls : List (List ℕ)
  pub same : IsPermutation (outside_links root pages) urls
  pub ascends : IsSortedByKey (λ url. url) (slice_cmp nat_cmp) urls
  pub counted : rows ≡ runs urls
