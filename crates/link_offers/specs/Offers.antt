-- The results for the links of a page, and the links that were lost.
use Rattle.std.specs.Prelude.{◌≡◌, ◌↔◌, ℕ, ◌+◌, Bool, false, List, [], ◌∷◌, Option, None, Some, Result, Ok, Err, flat_map}
use Rattle.crawl_frontier.specs.declared.offer.Offer.{Offer}
use Rattle.crawl_frontier.specs.declared.error.OfferError.{OfferError}
use Rattle.crawl_frontier.specs.Offers.{OfferBooks, OfferWordsHolding, IsFiltered}
use Rattle.crawl_frontier.specs.Parts.{BusyId, worker}
use Rattle.link_offers.specs.declared.losses.Loss.{Loss}
use Rattle.link_offers.specs.declared.losses.Losses.{Losses}
use Rattle.link_offers.specs.declared.offers.LinkOffers.{LinkOffers}
use Rattle.link_offers.specs.Logs.{HasLine}
use Rattle.link_offers.specs.Losses.{loss_of, with_loss}
use Rattle.link_offers.specs.Recent.{Knows}

-- the result for a link: the worker remembers it and does not offer it, or the result of its offer
abbrev pub LinkResult : Type 0
LinkResult = Option (Result Offer OfferError)

abbrev pub listed : Option Loss → List Loss
listed None = []
listed (Some why) = why ∷ []

-- the losses for this result: one for an error, and none if the link is remembered, accepted, seen or filtered
abbrev pub losses_by : LinkResult → List Loss
losses_by None = []
losses_by (Some (Ok offer)) = []
losses_by (Some (Err refused)) = listed (loss_of refused)

-- the losses with these added
abbrev pub with_losses : List Loss → Losses → Losses
with_losses [] losses = losses
with_losses (why ∷ more) losses = with_losses more (with_loss why losses)

-- an offer of a link by a busy worker, with this result
pub record IsOffer (workers : ℕ) (allowed : List ℕ → Bool) (b b' : BusyId) (url : List ℕ) (offer_result : Result Offer OfferError) : Type 0 where
  pub books : OfferBooks workers b.worker.book b'.worker.book url (b.message.entry.hops + 1) offer_result
  pub words : OfferWordsHolding b.message.unit b'.message.unit b.worker.seat b'.worker.seat offer_result
  pub filtered : IsFiltered offer_result ↔ (allowed url ≡ false)
  pub entry : b'.message.entry ≡ b.message.entry
  pub same : b'.worker ≡ worker b.worker.queue b'.worker.seat b.worker.taken b.worker.empty_pops b'.worker.book

-- the busy worker before and after a link with this result
abbrev pub HasResult : ℕ → (List ℕ → Bool) → BusyId → BusyId → List ℕ → LinkResult → Type 0
HasResult workers allowed b b' url None = (b' ≡ b) × HasLine workers b.worker.book.log url
HasResult workers allowed b b' url (Some offer_result) = IsOffer workers allowed b b' url offer_result

-- likewise for links, one after another
abbrev pub HaveResults : ℕ → (List ℕ → Bool) → BusyId → BusyId → List (List ℕ) → List LinkResult → Type 0
HaveResults workers allowed b b' [] [] = b' ≡ b
HaveResults workers allowed b b' [] (offer_result ∷ link_results) = ⊥
HaveResults workers allowed b b' (url ∷ urls) [] = ⊥
HaveResults workers allowed b b' (url ∷ urls) (offer_result ∷ link_results) =
    (m : BusyId) × HasResult workers allowed b m url offer_result × HaveResults workers allowed m b' urls link_results

-- the results for these links, and exactly the losses that they caused; the log has a line for each URL that is remembered after
-- them
pub record LinkResults (workers : ℕ) (allowed : List ℕ → Bool) (urls : List (List ℕ)) (b b' : BusyId) (old new : LinkOffers) : Type 0 where
  pub link_results : List LinkResult
  pub each : HaveResults workers allowed b b' urls link_results
  pub losses : new.losses ≡ with_losses (flat_map losses_by link_results) old.losses
  pub known : Knows workers b'.worker.book.log new.recent
