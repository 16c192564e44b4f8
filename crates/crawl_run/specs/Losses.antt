-- The losses of a crawl: those of its seeds and its workers together.
use Rattle.std.specs.Prelude.{◌-◌, ◌^◌, ◌≤◌, min, List, [], ◌∷◌, Result, Ok, Err, sum_by}
use Rattle.crawl_certificate.specs.declared.error.CertError.TheVariants as cert
use Rattle.crawl_frontier.specs.declared.error.OfferError.{OfferError}
use Rattle.crawl_frontier.specs.declared.offer.Offer.{Offer}
use Rattle.link_offers.specs.Losses.{all_losses, both_losses, no_losses, with_refusal}
use Rattle.link_offers.specs.declared.losses.Losses.{Losses}
use Rattle.crawl_workers.specs.declared.worker_end.WorkerEnd.{WorkerEnd}
use Rattle.crawl_run.specs.declared.error.CrawlError.{CrawlError}
use Rattle.crawl_run.specs.declared.error.CrawlError.TheVariants as wrong

-- the losses with those of the workers that have these ends
abbrev pub losses_with : {K : _} → Losses → List (WorkerEnd K) → Losses
losses_with before [] = before
losses_with before (e ∷ es) = losses_with (both_losses before e.losses) es

-- the loss for a seed whose offer had this result
abbrev pub lost_seed : Result Offer OfferError → Losses
lost_seed (Ok offer) = no_losses
lost_seed (Err refusal) = with_refusal refusal no_losses

-- the sum of all of these; each count stops at the greatest u64
abbrev pub together : List Losses → Losses
together all = record {
  failed = min (sum_by (λ (l : Losses). l.failed) all) (2 ^ 64 - 1);
  unkept = min (sum_by (λ (l : Losses). l.unkept) all) (2 ^ 64 - 1);
  full = min (sum_by (λ (l : Losses). l.full) all) (2 ^ 64 - 1);
  too_far = min (sum_by (λ (l : Losses). l.too_far) all) (2 ^ 64 - 1);
  crossed = min (sum_by (λ (l : Losses). l.crossed) all) (2 ^ 64 - 1);
  no_memory = min (sum_by (λ (l : Losses). l.no_memory) all) (2 ^ 64 - 1);
}

-- if a seed, a page or a link is missing, there is at least one loss
abbrev pub IsLost : CrawlError → Losses → Type 0
IsLost (wrong.Cert cert.SeedMissing) losses = 1 ≤ all_losses losses
IsLost (wrong.Cert cert.NotFetched) losses = 1 ≤ all_losses losses
IsLost (wrong.Cert cert.LinkMissing) losses = 1 ≤ all_losses losses
IsLost error losses = Unit {0}
