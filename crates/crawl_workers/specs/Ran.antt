-- What a worker did in a run.
use Rattle.std.specs.Prelude.{◌≡◌, ℕ, ◌+◌, ◌-◌, ◌^◌, ◌<◌, ◌≤◌, Bool, List, [], ◌∷◌, ◌++◌, length, map, Option, None, Some, All, flat_map, count_by, sum_by}
use Rattle.crawl_pages.specs.declared.page.Page.{Page}
use Rattle.crawl_pages.specs.declared.page.PageResult.{PageResult}
use Rattle.crawl_pages.specs.Pages.{links_of}
use Rattle.crawl_queues.specs.declared.entry.Entry.{Entry}
use Rattle.crawl_queues.specs.Entries.{KeepsRule}
use Rattle.crawl_frontier.specs.Parts.{WorkerId}
use Rattle.link_offers.specs.Logs.{AllLogged, Grows}
use Rattle.link_offers.specs.Losses.{sum_of}
use Rattle.link_offers.specs.declared.losses.Losses.{Losses}

-- an entry that was taken, and its page if there is a result for it
abbrev pub Fate : Type 0
Fate = Entry × Option Page

abbrev pub result_at : Entry → Option Page → List PageResult
result_at e None = []
result_at e (Some page) = record { url = e.url; page = page } ∷ []

-- the results of these, in order
abbrev pub results_of : List Fate → List PageResult
results_of fates = flat_map (λ (f : Fate). result_at f.0 f.1) fates

-- the entries that were taken, in order
abbrev pub taken_in : List Fate → List Entry
taken_in fates = map (λ (f : Fate). f.0) fates

-- the most that can be lost for a URL whose page has these links: the links that are allowed, and the URL if it has no result
abbrev pub most_lost_at : (List ℕ → Bool) → List (List ℕ) → Option Page → ℕ
most_lost_at allowed links None = count_by allowed links + 1
most_lost_at allowed links (Some page) = count_by allowed links

abbrev pub most_lost : (List ℕ → Bool) → (List ℕ → Page) → List Fate → ℕ
most_lost allowed meaning fates = sum_by (λ (f : Fate). most_lost_at allowed (links_of (meaning f.0.url)) f.1) fates

-- From `start` to `now`, on a frontier with this number of workers and this filter, over pages with this meaning: the worker keeps
-- its queue. It took more entries, each with a URL that is new in the queue and belongs there. The results are those of the entries
-- that have a page, in order, and each page is the one that the source has at its URL. Each entry without a result is lost, and in
-- addition only links that are allowed, each at most once. The log has only grown. If nothing was lost, it has each allowed link of
-- each result.
pub record Ran (workers : ℕ) (allowed : List ℕ → Bool) (meaning : List ℕ → Page) (start now : WorkerId) (results : List PageResult) (lost : ℕ) : Type 0 where
  pub fates : List Fate
  pub queue : now.queue ≡ start.queue
  pub taken : now.taken ≡ start.taken ++ taken_in fates
  pub rule : KeepsRule workers start.queue start.taken (taken_in fates)
  pub found : results ≡ results_of fates
  pub pages : All (λ r. r.page ≡ meaning r.url) results
  pub counted : lost < 2 ^ 64 - 1 → length fates ≤ length results + lost
  pub few : lost ≤ most_lost allowed meaning fates
  pub grows : Grows start.book now.book
  pub links : lost ≡ 0 → All (λ r. AllLogged workers allowed now.book.log (links_of r.page)) results

-- The losses by cause. `lost` is the sum of all, or the counts are at their maximum. Each URL that was taken has a result, or its
-- fetch failed, or there was no memory for its result.
pub record IsTally (start now : WorkerId) (results : List PageResult) (lost : ℕ) (losses : Losses) : Type 0 where
  pub all : lost ≡ sum_of losses
  pub urls : losses.failed + losses.unkept < 2 ^ 64 - 1 → length start.taken + length results + losses.failed + losses.unkept ≡ length now.taken
