-- The names that most proofs cite, passed on from one place. Declares nothing.
pub use Rattle.crawl_certificate.proofs.Lists.{first_or_later, here, no_element, same_text, there}
pub use Rattle.crawl_certificate.proofs.Places.{among_at, place_among}
pub use Rattle.crawl_certificate.specs.AccountEntries.{entries_in, entries_of}
pub use Rattle.crawl_certificate.specs.CertErrors.{first_error, link_missing, not_fetched, seed_missing}
pub use Rattle.crawl_certificate.specs.Certificate.{AllowedAreIn, ArePages, CountsOf, NothingLost, entry_urls, result_urls}
pub use Rattle.crawl_certificate.specs.Culprits.{IsCulprit, shows_error, no_memory}
pub use Rattle.crawl_certificate.specs.declared.culprit.Culprit.{Culprit}
pub use Rattle.crawl_certificate.specs.declared.error.CertError.{CertError}
pub use Rattle.crawl_frontier.proofs.Gets.{get_before, get_last}
pub use Rattle.crawl_frontier.specs.Accounts.{AccountId, Accounts, At, HasWorkers}
pub use Rattle.crawl_frontier.specs.FreshParts.{AllFresh}
pub use Rattle.crawl_frontier.specs.Parts.{SeederId, SenderId, WorkerId}
pub use Rattle.crawl_frontier.specs.declared.error.OfferError.{OfferError}
pub use Rattle.crawl_frontier.specs.declared.offer.Offer.{Offer}
pub use Rattle.crawl_gate.specs.Seat.{GateId}
pub use Rattle.crawl_keys.specs.HostFilter.{allows}
pub use Rattle.crawl_pages.specs.declared.page.Page.{Page}
pub use Rattle.crawl_pages.specs.declared.page.PageResult.{PageResult}
pub use Rattle.crawl_queues.specs.declared.entry.Entry.{Entry}
pub use Rattle.crawl_run.specs.Crawls.{AreCounts, ComesIn, CountedBelow, IsJudged, IsJudgedAt, IsOfRun, losses_at, of_cert}
pub use Rattle.crawl_run.specs.JudgedRuns.{AllOffered, AreOffered, CountsLosses, IsRun, IsSeedOffer}
pub use Rattle.crawl_run.specs.Losses.{IsLost, losses_with, lost_seed, together}
pub use Rattle.crawl_run.specs.LosslessRuns.{IsWithoutLoss, Share, all_closed, all_found, all_lost}
pub use Rattle.crawl_workers.specs.Runs.{AllRan}
pub use Rattle.crawl_workers.specs.declared.worker_end.WorkerEnd.{WorkerEnd}
pub use Rattle.link_offers.proofs.Logs.{all_logged_more, offer_grows, offer_line}
pub use Rattle.link_offers.specs.Logs.{AllLogged, HasLine}
pub use Rattle.link_offers.specs.Losses.{all_losses, both_losses, no_losses, with_refusal}
pub use Rattle.link_offers.specs.declared.losses.Losses.{Losses}
pub use Rattle.std.proofs.Common.{Bool, Err, IfOk, IsTrue, List, Ok, Option, Result, Some, [], ap, append-nil, append_assoc, arith, false, inl, inr, length, length-append, map, min, refl, slice_get, subst, suc, sym, take, true, zero, zero-add, ℕ, ◌++◌, ◌+◌, ◌-◌, ◌<◌, ◌^◌, ◌∙◌, ◌∷◌, ◌≡◌, ◌≤◌, ◌⊎◌}
pub use Rattle.std.proofs.lemmas.Bool.{cases_lt, or_cases}
pub use Rattle.std.proofs.lemmas.List.{map-append, take_all, take_more}
pub use Rattle.std.proofs.lemmas.List.Elements.{All-append, All-cons, All-contains, All-contains_itself, All-head, All-nil, All-tail, All-weaker, Contains-append_cases, Contains-append_left, Contains-append_right}
pub use Rattle.std.proofs.lemmas.List.Sums.{sum_by-append, sum_by-cons, sum_by_push}
pub use Rattle.std.proofs.lemmas.Option.{slice_get_cases, slice_get_within}
pub use Rattle.std.specs.List.{All, Contains, flat_map, sum_by}
