-- The outcome for each URL that a worker took, and what was lost.
use Rattle.std.specs.Prelude.{◌≡◌, ℕ, Bool, List, [], ◌∷◌, ◌++◌, map, flat_map}
use Rattle.crawl_pages.specs.declared.page.Page.{Page}
use Rattle.crawl_pages.specs.declared.page.PageResult.{PageResult}
use Rattle.crawl_pages.specs.Pages.{links_of}
use Rattle.crawl_queues.specs.declared.entry.Entry.{Entry}
use Rattle.crawl_queues.specs.Books.{BookId}
use Rattle.crawl_frontier.specs.Parts.{WorkerId, BusyId}
use Rattle.link_offers.specs.declared.losses.Loss.{Loss}
use Rattle.link_offers.specs.declared.losses.Loss.TheVariants as loss
use Rattle.link_offers.specs.declared.losses.Losses.{Losses}
use Rattle.link_offers.specs.Losses.{no_losses}
use Rattle.link_offers.specs.Offers.{LinkResult, HaveResults, losses_by, with_losses}

-- the outcome for a URL that was taken: its fetch failed; or the offers of its page's links had these results, and there was or was
-- not memory for its result
pub data Outcome : Type 0 where
  failed : Outcome
  unkept : List LinkResult → Outcome
  kept : List LinkResult → Outcome

abbrev pub losses_at : Outcome → List Loss
losses_at failed = loss.Failed ∷ []
losses_at (unkept link_results) = flat_map losses_by link_results ++ loss.Unkept ∷ []
losses_at (kept link_results) = flat_map losses_by link_results

-- the URL's result, if there is one
abbrev pub found_at : (List ℕ → Page) → List ℕ → Outcome → List PageResult
found_at meaning url failed = []
found_at meaning url (unkept link_results) = []
found_at meaning url (kept link_results) = record { url = url; page = meaning url } ∷ []

-- the busy worker before and after the links of its page
abbrev pub OffersLinks : ℕ → (List ℕ → Bool) → BusyId → BusyId → List (List ℕ) → Outcome → Type 0
OffersLinks workers allowed b b' links failed = b' ≡ b
OffersLinks workers allowed b b' links (unkept link_results) = HaveResults workers allowed b b' links link_results
OffersLinks workers allowed b b' links (kept link_results) = HaveResults workers allowed b b' links link_results

-- the worker was busy with this entry, with these books before and after
pub record IsTurn (workers : ℕ) (allowed : List ℕ → Bool) (meaning : List ℕ → Page) (book book' : BookId) (e : Entry) (outcome : Outcome) : Type 0 where
  pub before : BusyId
  pub after : BusyId
  pub entry : before.message.entry ≡ e
  pub first : before.worker.book ≡ book
  pub last : after.worker.book ≡ book'
  pub links : OffersLinks workers allowed before after (links_of (meaning e.url)) outcome

-- a turn with a URL
abbrev pub Turn : Type 0
Turn = Entry × Outcome

abbrev pub AreTurns : ℕ → (List ℕ → Bool) → (List ℕ → Page) → BookId → BookId → List Turn → Type 0
AreTurns workers allowed meaning b b' [] = b' ≡ b
AreTurns workers allowed meaning b b' (t ∷ ts) =
    (m : BookId) × IsTurn workers allowed meaning b m t.0 t.1 × AreTurns workers allowed meaning m b' ts

-- the entries that were taken, in order
abbrev pub entries_in : List Turn → List Entry
entries_in turns = map (λ (t : Turn). t.0) turns

-- From `start` to `now` the worker had these turns, one for each entry that it took. They account for its books, its results and
-- exactly these losses.
pub record IsAccountedFor (workers : ℕ) (allowed : List ℕ → Bool) (meaning : List ℕ → Page) (start now : WorkerId) (results : List PageResult) (losses : Losses) : Type 0 where
  pub turns : List Turn
  pub taken : now.taken ≡ start.taken ++ entries_in turns
  pub found : results ≡ flat_map (λ (t : Turn). found_at meaning t.0.url t.1) turns
  pub books : AreTurns workers allowed meaning start.book now.book turns
  pub why : losses ≡ with_losses (flat_map (λ (t : Turn). losses_at t.1) turns) no_losses
