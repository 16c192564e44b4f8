-- What all workers of a run did.
use Rattle.std.specs.Prelude.{ℕ, Bool, List}
use Rattle.std.specs.List.{AllZip}
use Rattle.crawl_pages.specs.declared.page.Page.{Page}
use Rattle.crawl_frontier.specs.Parts.{WorkerId}
use Rattle.crawl_workers.specs.declared.worker_end.WorkerEnd.{WorkerEnd}
use Rattle.crawl_workers.specs.Outcomes.{IsAccountedFor}
use Rattle.crawl_workers.specs.Ran.{Ran, IsTally}

-- the run of this worker to this end
abbrev pub RanTo : {K : _} → ℕ → (List ℕ → Bool) → (List ℕ → Page) → WorkerId → WorkerEnd K → Type 0
RanTo workers allowed meaning start e =
    Ran workers allowed meaning start e.closed e.results.items e.lost × IsTally start e.closed e.results.items e.lost e.losses
    × IsAccountedFor workers allowed meaning start e.closed e.results.items e.losses

-- one end for each worker, at the same index
abbrev pub AllRan : {K : _} → ℕ → (List ℕ → Bool) → (List ℕ → Page) → List WorkerId → List (WorkerEnd K) → Type 0
AllRan workers allowed meaning starts ends = AllZip (λ (w : WorkerId) (e : WorkerEnd _). RanTo workers allowed meaning w e) starts ends
