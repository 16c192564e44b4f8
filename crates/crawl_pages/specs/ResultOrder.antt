-- The order of results: ascending by URL; results with the same URL stay in the order given.
use Rattle.std.specs.Prelude.{◌≡◌, ◌≢◌, ℕ, Bool, List, [], ◌∷◌, filter, AllPairs, if◌then◌else◌, IsSortedByKey, bytes_eq}
use Rattle.std.specs.Ordering.{is_lt, nat_cmp}
use Rattle.std.specs.Cmp.Lexicographic.{slice_cmp}
use Rattle.crawl_pages.specs.declared.page.PageResult.{PageResult}

-- the list with x inserted before the first element that is not less than x
abbrev pub insertion : {X : Type 0} → (X → X → Bool) → X → List X → List X
insertion lt x [] = x ∷ []
insertion lt x (y ∷ ys) = if lt y x then y ∷ insertion lt x ys else x ∷ y ∷ ys

-- the list in ascending order; elements that tie stay in their order
abbrev pub stable_sort : {X : Type 0} → (X → X → Bool) → List X → List X
stable_sort lt [] = []
stable_sort lt (x ∷ xs) = insertion lt x (stable_sort lt xs)

-- the URL of a is less than that of b, byte by byte
abbrev pub is_before : PageResult → PageResult → Bool
is_before a b = is_lt (slice_cmp nat_cmp a.url b.url)

abbrev pub results_by_url : List PageResult → List PageResult
results_by_url results = stable_sort is_before results

-- ---- the terms of the laws

-- the results with this URL
abbrev pub results_at : List ℕ → List PageResult → List PageResult
results_at url results = filter (λ r. bytes_eq r.url url) results

-- `ordered` ascends by URL, and has for each URL the results with it in the order given
pub record IsInOrder (results ordered : List PageResult) : Type 0 where
  pub ascends : IsSortedByKey (λ r. r.url) (slice_cmp nat_cmp) ordered
  pub keeps : (url : List ℕ) → results_at url ordered ≡ results_at url results

-- no two results have the same URL
abbrev pub HasEachUrlOnce : List PageResult → Type 0
HasEachUrlOnce results = AllPairs (λ a b. a.url ≢ b.url) results
