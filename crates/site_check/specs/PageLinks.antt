-- The links in the pages of a site.
use Rattle.std.specs.Prelude.{◌-◌, ℕ, Bool, if◌then◌else◌, List, [], length, map, count_by, sum_by, nat_lt}
use Rattle.std.specs.List.{flat_map, list_any}
use Rattle.check_report.specs.declared.value.Broken.{Broken}
use Rattle.crawl_pages.specs.Pages.{is_found, links_of}
use Rattle.crawl_pages.specs.declared.page.PageResult.{PageResult}
use Rattle.site_check.specs.Broken.{begins}
use Rattle.site_check.specs.Totals.{is_page, place_count}
use Rattle.site_files.specs.Server.{before_query}

-- the links in a page, if it was found. An alias has one, to the own URL
abbrev pub page_links : PageResult → List (List ℕ)
page_links r = if is_found r.page then links_of r.page else []

abbrev pub page_urls : PageResult → List (List ℕ)
page_urls r = map before_query (page_links r)

-- the URLs of the links in found pages, without queries
abbrev pub link_urls : List PageResult → List (List ℕ)
link_urls results = flat_map page_urls results

-- those in pages without a link that begins with the top, such as a sitemap with another host
abbrev pub foreign_in : List ℕ → PageResult → List (List ℕ)
foreign_in top r = if list_any (begins top) (page_links r) then [] else page_urls r

abbrev pub foreign_urls : List ℕ → List PageResult → List (List ℕ)
foreign_urls top results = flat_map (foreign_in top) results

-- how many links there are
abbrev pub all_count : List PageResult → ℕ
all_count results = sum_by (λ r. length (page_links r)) results

-- how many of them begin with the top
abbrev pub below_count : List ℕ → List PageResult → ℕ
below_count top results = sum_by (λ r. count_by (begins top) (page_links r)) results

-- fewer than half of them
abbrev pub is_few : ℕ → ℕ → Bool
is_few part of = nat_lt part (of - part)

-- fewer than half of the links begin with the top, after the number of locations of links to missing pages is taken off
abbrev pub are_few_below : List ℕ → List PageResult → List Broken → Bool
are_few_below top results rows = is_few (below_count top results - place_count is_page rows) (all_count results)
