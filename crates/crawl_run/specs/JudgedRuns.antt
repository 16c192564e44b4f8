-- The run to which a crawl's error belongs, and all that was lost in it, by cause.
use Rattle.std.specs.Prelude.{◌≡◌, ◌↔◌, ℕ, Bool, false, List, [], ◌∷◌, ◌++◌, map, Option, Some, None, Result}
use Rattle.crawl_certificate.specs.AccountEntries.{entries_in}
use Rattle.crawl_certificate.specs.CertErrors.{first_error}
use Rattle.crawl_certificate.specs.Culprits.{shows_error}
use Rattle.crawl_certificate.specs.Least.{IsLeast}
use Rattle.crawl_certificate.specs.declared.error.CertError.{CertError}
use Rattle.crawl_frontier.specs.Accounts.{Accounts}
use Rattle.crawl_queues.specs.Books.{fresh_book}
use Rattle.crawl_frontier.specs.FreshParts.{AllFresh}
use Rattle.crawl_frontier.specs.Offers.{IsFiltered, OfferBooks, OfferWordsHolding}
use Rattle.crawl_frontier.specs.Parts.{SeederId, SenderId, WorkerId}
use Rattle.crawl_queues.specs.declared.entry.Entry.{Entry}
use Rattle.crawl_frontier.specs.declared.error.OfferError.{OfferError}
use Rattle.crawl_frontier.specs.declared.offer.Offer.{Offer}
use Rattle.crawl_gate.specs.Seat.{GateId}
use Rattle.crawl_pages.specs.declared.page.Page.{Page}
use Rattle.crawl_pages.specs.declared.page.PageResult.{PageResult}
use Rattle.link_offers.specs.Losses.{no_losses}
use Rattle.crawl_workers.specs.Runs.{AllRan}
use Rattle.link_offers.specs.declared.losses.Losses.{Losses}
use Rattle.crawl_workers.specs.declared.worker_end.WorkerEnd.{WorkerEnd}
use Rattle.crawl_run.specs.Losses.{lost_seed, together}
use Rattle.crawl_run.specs.LosslessRuns.{all_closed, all_found, all_lost}
use Rattle.crawl_run.specs.declared.error.CrawlError.{CrawlError}
use Rattle.crawl_run.specs.declared.error.CrawlError.TheVariants as wrong

-- The seeder offers a seed, with no hops, and gets this result. Its books and the words that it met are those of the result, which
-- is that the seed is filtered if and only if the URL is not allowed.
pub record IsSeedOffer (workers : ℕ) (allowed : List ℕ → Bool) (s s' : SeederId) (url : List ℕ) (outcome : Result Offer OfferError) : Type 0 where
  pub books : OfferBooks workers s.book s'.book url 0 outcome
  pub words : OfferWordsHolding s.opening s'.opening s.seat s'.seat outcome
  pub filtered : IsFiltered outcome ↔ (allowed url ≡ false)

-- the seeder offers these seeds, one after the other
abbrev pub AllOffered : ℕ → (List ℕ → Bool) → SeederId → SeederId → List (List ℕ) → List (Result Offer OfferError) → Type 0
AllOffered workers allowed s s' [] [] = s' ≡ s
AllOffered workers allowed s s' (url ∷ seeds) (outcome ∷ outcomes) = (m : SeederId) × IsSeedOffer workers allowed s m url outcome × AllOffered workers allowed m s' seeds outcomes
AllOffered workers allowed s s' seeds outcomes = ⊥

-- from `s` to `s'` each seed was offered, and these are the losses
pub record AreOffered (workers : ℕ) (allowed : List ℕ → Bool) (s s' : SeederId) (seeds : List (List ℕ)) (losses : Losses) : Type 0 where
  pub outcomes : List (Result Offer OfferError)
  pub each : AllOffered workers allowed s s' seeds outcomes
  pub lost : losses ≡ together (map lost_seed outcomes)

-- All workers of a new frontier ran to their ends. Its seeder offered the seeds, and the sender that it became has its books. The
-- run has an account with these entries, and these results, and these are the losses of seeds and workers together. The type in
-- `ends` identifies the frontier, which may be any.
pub record IsRun (workers : ℕ) (allowed : List ℕ → Bool) (meaning : List ℕ → Page) (seeds : List (List ℕ)) (entries : List Entry) (results : List PageResult) (losses : Losses) : Type 0 where
  pub gate : GateId
  pub starts : List WorkerId
  pub ends : List (WorkerEnd (Unit {0}))
  pub seeder : SeederId
  pub seeded : SeederId
  pub sender : SenderId
  pub outcomes : List (Result Offer OfferError)
  pub queues : List (List Entry)
  pub fresh : AllFresh gate workers 0 starts
  pub ran : AllRan workers allowed meaning starts ends
  pub first : seeder.book ≡ fresh_book workers workers
  pub offered : AllOffered workers allowed seeder seeded seeds outcomes
  pub last : sender.book ≡ seeded.book
  pub account : Accounts workers (all_closed ends) (sender ∷ []) queues
  pub accepted : entries ≡ entries_in queues
  pub found : results ≡ all_found ends
  pub lost : losses ≡ together (map lost_seed outcomes ++ all_lost ends)

-- such a run has these losses, its certificate has this error, and no lesser URL has it
pub record IsLossAt (workers : ℕ) (allowed : List ℕ → Bool) (meaning : List ℕ → Page) (seeds : List (List ℕ)) (error : CertError) (url : List ℕ) (losses : Losses) : Type 0 where
  pub entries : List Entry
  pub results : List PageResult
  pub run : IsRun workers allowed meaning seeds entries results losses
  pub first : first_error allowed seeds entries results ≡ Some error
  pub least : IsLeast (shows_error allowed seeds entries results error) (Some url)

-- an error of the certificate is reported with the losses of its run, and any other error without losses
abbrev pub CountsLosses : ℕ → (List ℕ → Bool) → (List ℕ → Page) → List (List ℕ) → CrawlError → Option (List ℕ) → Losses → Type 0
CountsLosses workers allowed meaning seeds error None losses = losses ≡ no_losses
CountsLosses workers allowed meaning seeds (wrong.Cert error) (Some url) losses = IsLossAt workers allowed meaning seeds error url losses
CountsLosses workers allowed meaning seeds error (Some url) losses = ⊥
