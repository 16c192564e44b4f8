-- The URLs that the sitemaps of a site list.
use Rattle.std.specs.Prelude.{ℕ, zero, suc, List, [], ◌++◌, filter, flat_map, length}
use Rattle.std.specs.List.Sorted.{IsPermutation, IsSortedBy}
use Rattle.std.specs.Option.{option_to_list}
use Rattle.crawl_pages.specs.declared.page.Page.{Page}
use Rattle.crawl_pages.specs.declared.page.Page.TheVariants as page
use Rattle.saved_site.specs.Linked.{PageFound, page_at}
use Rattle.saved_site.specs.Pages.{is_after}
use Rattle.site_files.specs.Files.{pages_of}
use Rattle.site_files.specs.Own.{may_be_sitemap, sitemap_at}
use Rattle.site_files.specs.declared.files.SiteFiles.{SiteFiles}

-- the links of a page with a URL
abbrev pub links_in : Page → List (List ℕ)
links_in (page.Found links skipped) = links
links_in (page.Moved to) = []
links_in page.Missing = []

-- those of the pages at some URLs
abbrev pub links_at : List PageFound → List (List ℕ) → List (List ℕ)
links_at pages urls = flat_map (λ url. links_in (page_at pages url)) urls

-- the sitemaps that are known by their names, among the pages with a lower number
abbrev pub named_below : SiteFiles → ℕ → List (List ℕ)
named_below files zero = []
named_below files (suc number) = named_below files number ++ option_to_list (sitemap_at files number)

abbrev pub named_sitemaps : SiteFiles → List (List ℕ)
named_sitemaps files = named_below files (length (pages_of files))

-- what these list, and the links of other sitemaps among it
abbrev pub listed_with : SiteFiles → List PageFound → List (List ℕ) → List (List ℕ)
listed_with files pages urls = urls ++ links_at pages (filter (may_be_sitemap files) urls)

-- the URLs that sitemaps list, sitemap by sitemap
abbrev pub listed_in : SiteFiles → List PageFound → List (List ℕ)
listed_in files pages = listed_with files pages (links_at pages (named_sitemaps files))

-- the same URLs in order
pub record AreListed (files : SiteFiles) (pages : List PageFound) (urls : List (List ℕ)) : Type 0 where
  pub same : IsPermutation (listed_in files pages) urls
  pub sorted : IsSortedBy is_after urls
