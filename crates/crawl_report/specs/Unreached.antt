-- Which pages of a web no result has.
use Rattle.std.specs.Prelude.{ℕ, Bool, ◌&&◌, not, List, filter, bytes_eq}
use Rattle.std.specs.List.{list_any}
use Rattle.std.specs.BTreeSet.{BTreeSet, contains}
use Rattle.hash_order.specs.HashOrder.{by_hash}
use Rattle.crawl_pages.specs.declared.page.PageResult.{PageResult}

-- some result has the URL
abbrev pub has_result : List PageResult → List ℕ → Bool
has_result results url = list_any (λ r. bytes_eq r.url url) results

-- the URL is allowed, and no result has it
abbrev pub is_unreached : (List ℕ → Bool) → List PageResult → List ℕ → Bool
is_unreached allowed results url = allowed url && not (has_result results url)

-- the URLs that are allowed and that no result has
abbrev pub unreached_of : (List ℕ → Bool) → List PageResult → List (List ℕ) → List (List ℕ)
unreached_of allowed results urls = filter (is_unreached allowed results) urls

-- the URL is in the set
abbrev pub is_in : BTreeSet (List ℕ) → List ℕ → Bool
is_in urls url = contains by_hash urls url

-- the URLs that are allowed and not in the set
abbrev pub unseen_of : (List ℕ → Bool) → BTreeSet (List ℕ) → List (List ℕ) → List (List ℕ)
unseen_of allowed seen urls = filter (λ url. allowed url && not (is_in seen url)) urls
