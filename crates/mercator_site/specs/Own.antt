-- The URLs of a site: those below its top.
use Rattle.std.specs.Prelude.{ℕ, List, [], ◌∷◌, filter, if◌then◌else◌}
use Rattle.std.specs.List.{AllPass}
use Rattle.crawl_pages.specs.declared.page.PageResult.{PageResult}
use Rattle.site_files.specs.Below.{begins}

-- all of these URLs begin with the top
abbrev pub AreOwn : List ℕ → List (List ℕ) → Type 0
AreOwn top urls = AllPass (begins top) urls

-- the results whose URLs begin with the top
abbrev pub own_of : List ℕ → List PageResult → List PageResult
own_of top results = filter (λ r. begins top r.url) results

-- ---- if the results are in order, these are consecutive

-- the results from the first such one on
abbrev pub from_own : List ℕ → List PageResult → List PageResult
from_own top [] = []
from_own top (r ∷ more) = if begins top r.url then r ∷ more else from_own top more

-- the results before the first that is not one
abbrev pub while_own : List ℕ → List PageResult → List PageResult
while_own top [] = []
while_own top (r ∷ more) = if begins top r.url then r ∷ while_own top more else []
