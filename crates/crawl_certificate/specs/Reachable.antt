-- The URLs that a crawl can reach: those to which a walk over links leads from a seed, by allowed URLs only.
use Rattle.std.specs.Prelude.{◌≡◌, ℕ, ◌+◌, Bool, IsTrue, List, [], ◌∷◌, length, Contains}
use Rattle.crawl_pages.specs.declared.page.Page.{Page}
use Rattle.crawl_pages.specs.Pages.{links_of}

-- a walk continues from a URL along this list: each URL is allowed and is a link of the page before it, and the last URL is `end`
abbrev pub Continues : (List ℕ → Page) → (List ℕ → Bool) → List ℕ → List (List ℕ) → List ℕ → Type 0
Continues page allowed url [] end = url ≡ end
Continues page allowed url (next ∷ rest) end = Contains (links_of (page url)) next × IsTrue (allowed next) × Continues page allowed next rest end

-- the list of URLs is a walk to `end`: it begins with an allowed seed, and continues from there
abbrev pub IsWalk : (List ℕ → Page) → (List ℕ → Bool) → List (List ℕ) → List (List ℕ) → List ℕ → Type 0
IsWalk page allowed seeds [] end = ⊥
IsWalk page allowed seeds (first ∷ rest) end = Contains seeds first × IsTrue (allowed first) × Continues page allowed first rest end

-- some walk leads to the URL
pub record Reachable (page : List ℕ → Page) (allowed : List ℕ → Bool) (seeds : List (List ℕ)) (url : List ℕ) : Type 0 where
  pub walk : List (List ℕ)
  pub leads : IsWalk page allowed seeds walk url

-- a walk to the URL has n hops, and so n + 1 URLs
pub record WalkOf (page : List ℕ → Page) (allowed : List ℕ → Bool) (seeds : List (List ℕ)) (hops : ℕ) (url : List ℕ) : Type 0 where
  pub walk : List (List ℕ)
  pub leads : IsWalk page allowed seeds walk url
  pub long : length walk ≡ hops + 1

-- another source has the same page for each URL that can be reached
abbrev pub AgreeOnReached : (List ℕ → Page) → (List ℕ → Page) → (List ℕ → Bool) → List (List ℕ) → Type 0
AgreeOnReached page other allowed seeds = (url : List ℕ) → Reachable page allowed seeds url → other url ≡ page url
