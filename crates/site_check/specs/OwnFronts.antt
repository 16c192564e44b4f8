-- The hint at another URL of the folder: most pages that link to other URLs have a link to their own path below this one, such as a
-- canonical link.
use Rattle.std.specs.Prelude.{◌==◌, ℕ, Bool, not, ◌&&◌, if◌then◌else◌, List, length, drop, codes, count_by, Option, None, Some, option_and_then, option_map, string_bytes}
use Rattle.std.specs.List.{flat_map, list_any}
use Rattle.std.specs.Option.{option_to_list}
use Rattle.crawl_pages.specs.declared.page.PageResult.{PageResult}
use Rattle.site_check.specs.Base.{Hint, first_in, often_first, path_count}
use Rattle.site_check.specs.Broken.{begins}
use Rattle.site_check.specs.Names.{ends, without_end}
use Rattle.site_check.specs.PageLinks.{link_urls, page_links}
use Rattle.site_files.specs.Server.{before_query}
use Rattle.site_files.specs.declared.files.SiteFiles.{SiteFiles}

-- what is before an end
abbrev pub cut_end : List ℕ → List ℕ → Option (List ℕ)
cut_end end text = if ends end text then Some (without_end end text) else None

-- the URL of a folder: it ends with a slash that is not one of the two before a host
abbrev pub is_front : List ℕ → Bool
is_front front = ends (codes "/") front && not (ends (codes "://") front)

-- the folder below which a link has this path
abbrev pub front_of : List ℕ → List ℕ → Option (List ℕ)
front_of path link = option_and_then (λ front. if is_front front then Some front else None) (cut_end path (before_query link))

-- that of the first such link. An empty path is that of the top, and every link ends with it
abbrev pub first_front : List ℕ → List (List ℕ) → Option (List ℕ)
first_front path links = if length path == 0 then None else first_in (flat_map (λ link. option_to_list (front_of path link)) links)

-- a folder and the top do not begin with each other
abbrev pub is_elsewhere : List ℕ → List ℕ → Bool
is_elsewhere top front = not (begins top front) && not (begins front top)

-- that of the first such link, if it leads elsewhere
abbrev pub front_elsewhere : List ℕ → List ℕ → List (List ℕ) → Option (List ℕ)
front_elsewhere top path links = option_and_then (λ front. if is_elsewhere top front then Some front else None) (first_front path links)

-- the folder below which the first link of a page to its own path leads, if that is elsewhere: a canonical link is the first one
abbrev pub page_front : List ℕ → PageResult → Option (List ℕ)
page_front top r = if begins top r.url then front_elsewhere top (before_query (drop (length top) r.url)) (page_links r) else None

abbrev pub own_fronts : List ℕ → List PageResult → List (List ℕ)
own_fronts top results = flat_map (λ r. option_to_list (page_front top r)) results

-- the page has a link that does not begin with the top
abbrev pub is_outward : List ℕ → List ℕ → Bool
is_outward top link = not (begins top link)

abbrev pub links_outward : List ℕ → PageResult → Bool
links_outward top r = list_any (is_outward top) (page_links r)

abbrev pub outward_count : List ℕ → List PageResult → ℕ
outward_count top results = count_by (links_outward top) results

-- the hint at a URL with the numbers of all links that begin with it, and of all links
abbrev pub front_hint : List PageResult → List ℕ → Hint
front_hint results front = record { folder = front; paths = count_by (begins front) (link_urls results); of = length (link_urls results) }

-- at least two and at least half of these pages have the same folder
abbrev pub own_hint : SiteFiles → List PageResult → Option Hint
own_hint files results =
    let top = string_bytes files.site.top in
    let fronts = own_fronts top results in
    option_map (front_hint results) (often_first (outward_count top results) (path_count fronts) fronts)
