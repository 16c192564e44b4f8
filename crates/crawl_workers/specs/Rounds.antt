-- Workers in turn on one thread.
use Rattle.std.specs.Prelude.{◌≡◌, ℕ, ◌<◌, Bool, List, Some, slice_get}
use Rattle.std.specs.List.{AllZip}
use Rattle.crawl_pages.specs.declared.page.Page.{Page}
use Rattle.crawl_frontier.specs.Parts.{WorkerId}
use Rattle.crawl_workers.specs.declared.turns.Runner.{Runner}
use Rattle.crawl_workers.specs.declared.turns.Runner.TheVariants.{Going, Ended, Moved}
use Rattle.crawl_workers.specs.Turn.{Goes}
use Rattle.crawl_workers.specs.Runs.{RanTo}

-- what a runner has done so far. While its worker is moved out of the list, nothing is known
abbrev pub RunnerRan : {K : _} → ℕ → (List ℕ → Bool) → (List ℕ → Page) → WorkerId → Runner K → Type 0
RunnerRan workers allowed meaning start (Going w h) = Goes workers allowed meaning start w h
RunnerRan workers allowed meaning start (Ended e) = RanTo workers allowed meaning start e
RunnerRan workers allowed meaning start Moved = ⊥

abbrev pub IsEnded : {K : _} → Runner K → Type 0
IsEnded (Ended e) = Unit {0}
IsEnded _ = ⊥

-- the first n runners have ended
abbrev pub EndedBelow : {K : _} → ℕ → List (Runner K) → Type 0
EndedBelow n runners = (k : ℕ) (r : Runner _) → k < n → slice_get runners k ≡ Some r → IsEnded r

-- one runner for each worker, which has begun with the worker at its index
abbrev pub AllGo : {K : _} → ℕ → (List ℕ → Bool) → (List ℕ → Page) → List WorkerId → List (Runner K) → Type 0
AllGo workers allowed meaning starts runners = AllZip (λ (w : WorkerId) (r : Runner _). RunnerRan workers allowed meaning w r) starts runners
