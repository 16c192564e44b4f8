-- The results of a crawl in addition to its pages.
use Rattle.std.specs.Prelude.{◌≡◌, ℕ, ◌<◌, ◌==◌, Bool, true, false, List, length, count_by, slice_get, Option, Some, None}
use Rattle.crawl_certificate.specs.Certificate.{ArePages}
use Rattle.crawl_certificate.specs.CertErrors.{first_error}
use Rattle.crawl_certificate.specs.declared.error.CertError.{CertError}
use Rattle.crawl_certificate.specs.declared.error.CertError.TheVariants as cert
use Rattle.crawl_certificate.specs.Culprits.{shows_error}
use Rattle.crawl_certificate.specs.Least.{IsLeast}
use Rattle.crawl_frontier.specs.Accounts.{AccountId}
use Rattle.crawl_frontier.specs.Limits.{IsWorkers}
use Rattle.crawl_queues.specs.declared.entry.Entry.{Entry}
use Rattle.crawl_frontier.specs.declared.error.FinishError.{FinishError}
use Rattle.crawl_frontier.specs.declared.error.FinishError.TheVariants as finish
use Rattle.crawl_frontier.specs.declared.error.FrontierError.{FrontierError}
use Rattle.crawl_frontier.specs.declared.error.FrontierError.TheVariants as frontier
use Rattle.crawl_gate.specs.GateError.{IsMaximum}
use Rattle.crawl_keys.specs.Assignment.{subqueue_of}
use Rattle.crawl_pages.specs.declared.page.Page.{Page}
use Rattle.crawl_pages.specs.declared.page.PageResult.{PageResult}
use Rattle.link_offers.specs.Losses.{no_losses}
use Rattle.crawl_workers.specs.declared.error.RunError.{RunError}
use Rattle.crawl_workers.specs.declared.error.RunError.TheVariants as run
use Rattle.link_offers.specs.declared.losses.Losses.{Losses}
use Rattle.crawl_run.specs.declared.settings.Mode.{Mode}
use Rattle.crawl_run.specs.declared.settings.Mode.TheVariants.{Threads}
use Rattle.crawl_run.specs.declared.error.CrawlError.{CrawlError}
use Rattle.crawl_run.specs.declared.error.CrawlError.TheVariants as wrong
use Rattle.crawl_run.specs.declared.failure.CrawlFailure.{CrawlFailure}

-- a count for each subqueue: the number of URLs that belong to it
pub record AreCounts (workers : ℕ) (urls : List (List ℕ)) (counts : List ℕ) : Type 0 where
  pub len : length counts ≡ workers
  pub each : (queue : ℕ) → queue < workers → slice_get counts queue ≡ Some (count_by (λ url. subqueue_of url workers == queue) urls)

-- counts for the first `some` queues of the account, each the number of the queue's entries
pub record CountedBelow (some : ℕ) (account : AccountId) (counts : List ℕ) : Type 0 where
  pub len : length counts ≡ some
  pub each : (queue : ℕ) → queue < some → (entries : List Entry) × ((slice_get account.queues queue ≡ Some entries) × (slice_get counts queue ≡ Some (length entries)))

-- the error of a crawl for an error of one of its steps: out of memory is always the same error
abbrev pub of_frontier : FrontierError → CrawlError
of_frontier frontier.NoMemory = wrong.NoMemory
of_frontier error = wrong.Frontier error

abbrev pub of_run : RunError → CrawlError
of_run run.NoMemory = wrong.NoMemory
of_run error = wrong.Run error

abbrev pub of_finish : FinishError → CrawlError
of_finish finish.NoMemory = wrong.NoMemory
of_finish error = wrong.Finish error

abbrev pub of_cert : CertError → CrawlError
of_cert cert.NoMemory = wrong.NoMemory
of_cert error = wrong.Cert error

-- the crawl was made and is incomplete: it is not certified, has no account, or could not start a thread
abbrev pub is_incomplete : CrawlError → Bool
is_incomplete (wrong.Run error) = true
is_incomplete (wrong.Finish error) = true
is_incomplete (wrong.Cert error) = true
is_incomplete error = false

-- an error of a run on a frontier that was made. Out of memory is an error of its own, and `finish` never finds the gate open
abbrev pub IsOfRun : CrawlError → Type 0
IsOfRun (wrong.Frontier error) = ⊥
IsOfRun (wrong.Run run.NoMemory) = ⊥
IsOfRun (wrong.Finish finish.NoMemory) = ⊥
IsOfRun (wrong.Finish (finish.Unsettled word)) = ⊥
IsOfRun (wrong.Cert cert.NoMemory) = ⊥
IsOfRun _ = Unit {0}

-- likewise, before there is a certificate
abbrev pub IsUncertified : CrawlError → Type 0
IsUncertified (wrong.Cert error) = ⊥
IsUncertified error = IsOfRun error

-- an error that can occur in this mode: only workers in threads can fail because a thread cannot be started
abbrev pub ComesIn : Mode → CrawlError → Type 0
ComesIn mode (wrong.Run error) = mode ≡ Threads
ComesIn mode _ = Unit {0}

-- the certificate's error is the first error of some accepted entries and some results, and each result has the page of the source
pub record IsErrorOf (meaning : List ℕ → Page) (allowed : List ℕ → Bool) (seeds : List (List ℕ)) (error : CertError) : Type 0 where
  pub entries : List Entry
  pub results : List PageResult
  pub means : ArePages meaning results
  pub first : first_error allowed seeds entries results ≡ Some error

-- likewise, and no lesser URL, byte by byte, has this error
pub record IsErrorAt (meaning : List ℕ → Page) (allowed : List ℕ → Bool) (seeds : List (List ℕ)) (error : CertError) (url : List ℕ) : Type 0 where
  pub entries : List Entry
  pub results : List PageResult
  pub means : ArePages meaning results
  pub first : first_error allowed seeds entries results ≡ Some error
  pub least : IsLeast (shows_error allowed seeds entries results error) (Some url)

-- an error that is reported without a URL: any that is not the certificate's
abbrev pub NamesNone : CrawlError → Type 0
NamesNone (wrong.Cert error) = ⊥
NamesNone error = Unit {0}

-- an error of the certificate is reported with such a URL, and any other error without one
abbrev pub IsJudgedAt : (List ℕ → Page) → (List ℕ → Bool) → List (List ℕ) → CrawlError → Option (List ℕ) → Type 0
IsJudgedAt meaning allowed seeds error None = NamesNone error
IsJudgedAt meaning allowed seeds (wrong.Cert error) (Some url) = IsErrorAt meaning allowed seeds error url
IsJudgedAt meaning allowed seeds error (Some url) = ⊥

-- the failure for an error without a URL
abbrev pub without_url : CrawlError → CrawlFailure
without_url error = record { error = error; culprit = None; losses = no_losses }

-- the losses that are reported; none without a URL
abbrev pub losses_at : Option (List ℕ) → Losses → Losses
losses_at None losses = no_losses
losses_at (Some url) losses = losses

-- if the error is one of the certificate, it is such an error
abbrev pub IsJudged : (List ℕ → Page) → (List ℕ → Bool) → List (List ℕ) → CrawlError → Type 0
IsJudged meaning allowed seeds (wrong.Cert error) = IsErrorOf meaning allowed seeds error
IsJudged meaning allowed seeds _ = Unit {0}

-- why a crawl with these numbers fails: the first number that is out of range, and another error only if both are in range
abbrev pub CrawlFails : ℕ → ℕ → CrawlError → Type 0
CrawlFails workers max (wrong.Frontier frontier.BadWorkers) = ¬ IsWorkers workers
CrawlFails workers max (wrong.Frontier frontier.BadLimit) = IsWorkers workers × ¬ IsMaximum max
CrawlFails workers max error = IsWorkers workers × IsMaximum max × IsOfRun error
