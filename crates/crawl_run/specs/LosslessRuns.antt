-- The run of all workers, and a run in which nothing is lost.
use Rattle.std.specs.Prelude.{◌≡◌, ℕ, Bool, List, [], ◌∷◌, ◌++◌}
use Rattle.crawl_frontier.specs.Parts.{WorkerId}
use Rattle.crawl_pages.specs.declared.page.Page.{Page}
use Rattle.crawl_pages.specs.declared.page.PageResult.{PageResult}
use Rattle.crawl_workers.specs.Ran.{Ran}
use Rattle.link_offers.specs.declared.losses.Losses.{Losses}
use Rattle.crawl_workers.specs.declared.worker_end.WorkerEnd.{WorkerEnd}

-- one worker's share of a run: its beginning, its end, and what it found
pub record Share : Type 0 where
  pub start : WorkerId
  pub now : WorkerId
  pub found : List PageResult

-- the closed workers of these ends, all their results, and the losses of each, in order
abbrev pub all_closed : {K : _} → List (WorkerEnd K) → List WorkerId
all_closed [] = []
all_closed (e ∷ es) = e.closed ∷ all_closed es

abbrev pub all_found : {K : _} → List (WorkerEnd K) → List PageResult
all_found [] = []
all_found (e ∷ es) = e.results.items ++ all_found es

abbrev pub all_lost : {K : _} → List (WorkerEnd K) → List Losses
all_lost [] = []
all_lost (e ∷ es) = e.losses ∷ all_lost es

-- the worker had taken nothing before, and lost nothing
abbrev pub IsWithoutLoss : ℕ → (List ℕ → Bool) → (List ℕ → Page) → Share → Type 0
IsWithoutLoss workers allowed meaning share = (share.start.taken ≡ []) × Ran workers allowed meaning share.start share.now share.found 0
