-- What is counted for each URL while the results are read.
use Rattle.std.specs.Prelude.{◌≡◌, ℕ, ◌+◌, ◌≤◌, Bool, List, [], ◌∷◌, ◌++◌, length, map, nat_lt, if◌then◌else◌, Option, Some, None}
use Rattle.std.specs.Borrow.{Bor}
use Rattle.std.specs.BTreeMap.{BTreeMap, get_by}
use Rattle.hash_order.specs.HashOrder.{by_hash}
use Rattle.crawl_pages.specs.declared.page.PageResult.{PageResult}
use Rattle.crawl_sources.specs.Sources.{least_with, sources_of, least}

-- the values to which the references point
abbrev pub pointed : {X : Type 0} → List (Bor X) → List X
pointed xs = map (λ x. x.now) xs

-- the count of the results that link to a URL
pub record Count : Type 0 where
  -- the number of those read so far that link to it
  pub count : ℕ
  -- the least of their URLs
  pub page : Option (List ℕ)
  -- their URLs, if all of them are kept
  pub all : List (List ℕ)
  -- the number, from 1, of the result that was counted last; 0 if none was
  pub last : ℕ

-- nothing is counted
abbrev pub none_counted : Count
none_counted = record { count = 0; page = None; all = []; last = 0 }

-- the count with the result of this number and URL, which is counted only once
abbrev pub counted : Bool → ℕ → List ℕ → Count → Count
counted all number url c =
    if nat_lt c.last number then record { count = c.count + 1; page = least_with c.page url; all = if all then c.all ++ url ∷ [] else c.all; last = number }
    else c

abbrev pub Tallies : Type 0
Tallies = BTreeMap (List ℕ) Count

-- the count that is kept for the URL
abbrev pub count_of : Tallies → List ℕ → Option Count
count_of tallies url = get_by (λ k. by_hash url k) tallies

-- the count is that of the results that link to the URL
pub record IsCount (all : Bool) (results : List PageResult) (url : List ℕ) (c : Count) : Type 0 where
  pub count : c.count ≡ length (sources_of results url)
  pub page : c.page ≡ least (map (λ r. r.url) (sources_of results url))
  pub kept : c.all ≡ (if all then map (λ r. r.url) (sources_of results url) else [])
  pub last : c.last ≤ length results

-- the count that is kept for the URL, if any, is that of the results that link to it
abbrev pub IsTally : Bool → List PageResult → List ℕ → Option Count → Type 0
IsTally all results url None = Unit {0}
IsTally all results url (Some c) = IsCount all results url c
