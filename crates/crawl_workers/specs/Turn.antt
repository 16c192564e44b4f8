-- What a worker does in one turn.
use Rattle.std.specs.Prelude.{◌≡◌, ◌⊎◌, ℕ, Bool, List, [], ◌∷◌, ◌++◌}
use Rattle.crawl_pages.specs.declared.page.Page.{Page}
use Rattle.crawl_pages.specs.declared.page.PageResult.{PageResult}
use Rattle.crawl_pages.specs.Pages.{links_of}
use Rattle.crawl_queues.specs.Entries.{KeepsRule}
use Rattle.crawl_frontier.specs.Parts.{WorkerId, BusyId}
use Rattle.link_offers.specs.declared.losses.Loss.TheVariants as loss
use Rattle.link_offers.specs.declared.offers.LinkOffers.{LinkOffers}
use Rattle.crawl_workers.specs.declared.output.WorkerOutput.{WorkerOutput}
use Rattle.crawl_workers.specs.declared.turn.Step.{Step}
use Rattle.crawl_workers.specs.declared.turn.Step.TheVariants.{Worked, Waits, Closes}
use Rattle.link_offers.specs.Losses.{with_loss}
use Rattle.link_offers.specs.Offers.{with_losses}
use Rattle.crawl_workers.specs.Outcomes.{Outcome, OffersLinks, losses_at, found_at, entries_in, IsAccountedFor}
use Rattle.link_offers.specs.Recent.{Knows}

-- the worker after a turn
abbrev pub worker_in : {K : _} → Step K → WorkerId
worker_in (Worked w) = w
worker_in (Waits w) = w
worker_in (Closes w) = w

-- From `start` to `now`, with these results and offers: the worker keeps its queue; its turns are those of `IsAccountedFor`, each with a
-- URL that is new in the queue and belongs there; and the log has a line for each URL that is remembered.
pub record Progress (workers : ℕ) (allowed : List ℕ → Bool) (meaning : List ℕ → Page) (start now : WorkerId) (results : List PageResult) (offers : LinkOffers) : Type 0 where
  pub queue : now.queue ≡ start.queue
  pub accounted : IsAccountedFor workers allowed meaning start now results offers.losses
  pub rule : KeepsRule workers start.queue start.taken (entries_in accounted.turns)
  pub known : Knows workers now.book.log offers.recent

abbrev pub Goes : ℕ → (List ℕ → Bool) → (List ℕ → Page) → WorkerId → WorkerId → WorkerOutput → Type 0
Goes workers allowed meaning start now output = Progress workers allowed meaning start now output.results.items output.offers

-- the outcome for the URL that was taken, and exactly what was lost; the log has a line for each URL that is remembered after it
pub record UrlOutcome (workers : ℕ) (allowed : List ℕ → Bool) (meaning : List ℕ → Page) (b b' : BusyId) (old new : WorkerOutput) : Type 0 where
  pub outcome : Outcome
  pub links : OffersLinks workers allowed b b' (links_of (meaning b.message.entry.url)) outcome
  pub results : new.results.items ≡ old.results.items ++ found_at meaning b.message.entry.url outcome
  pub losses : new.offers.losses ≡ with_losses (losses_at outcome) old.offers.losses
  pub known : Knows workers b'.worker.book.log new.offers.recent

-- the page was added to the results, or there was no memory for it
abbrev pub HasRoomOrNot : List ℕ → Page → WorkerOutput → WorkerOutput → Type 0
HasRoomOrNot url page old new =
    ((new.results.items ≡ old.results.items ++ record { url = url; page = page } ∷ []) × (new.offers ≡ old.offers))
    ⊎ ((new.results.items ≡ old.results.items) × (new.offers.losses ≡ with_loss loss.Unkept old.offers.losses) × (new.offers.recent ≡ old.offers.recent))
