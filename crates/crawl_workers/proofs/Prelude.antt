-- The names that most proofs cite, passed on from one place. Declares nothing.
pub use Rattle.crawl_frontier.proofs.Gets.{get_before, get_last, get_within, has_at}
pub use Rattle.crawl_frontier.specs.Parts.{BusyId, SenderId, WorkerId, worker}
pub use Rattle.crawl_keys.specs.HostFilter.{allows}
pub use Rattle.crawl_pages.specs.Pages.{links_of}
pub use Rattle.crawl_pages.specs.declared.page.Page.{Page}
pub use Rattle.crawl_pages.specs.declared.page.PageResult.{PageResult}
pub use Rattle.crawl_queues.specs.Books.{BookId, sent_to}
pub use Rattle.crawl_queues.specs.Entries.{KeepsRule, MayFollow, entries_of, has_url}
pub use Rattle.crawl_queues.specs.declared.entry.Entry.{Entry}
pub use Rattle.crawl_workers.specs.Outcomes.{AreTurns, OffersLinks, IsAccountedFor, IsTurn, Outcome, Turn, entries_in, failed, found_at, kept, losses_at, unkept}
pub use Rattle.crawl_workers.specs.Ran.{Fate, IsTally, Ran, most_lost, most_lost_at, results_of, taken_in}
pub use Rattle.crawl_workers.specs.Rounds.{AllGo, EndedBelow, IsEnded, RunnerRan}
pub use Rattle.crawl_workers.specs.Runs.{AllRan, RanTo}
pub use Rattle.crawl_workers.specs.Turn.{Goes, HasRoomOrNot, Progress, UrlOutcome}
pub use Rattle.link_offers.proofs.LinkResults.{SameBusy, answers_few, answers_logged, answers_same, busy_same, losses_on}
pub use Rattle.link_offers.specs.Logs.{AllLogged, Grows, HasLine, line_of}
pub use Rattle.link_offers.specs.Losses.{all_losses, no_losses, sum_of, with_loss}
pub use Rattle.link_offers.specs.Offers.{HaveResults, LinkResult, LinkResults, losses_by, with_losses}
pub use Rattle.link_offers.specs.declared.losses.Loss.{Loss}
pub use Rattle.link_offers.specs.declared.offers.LinkOffers.{LinkOffers}
pub use Rattle.std.proofs.Common.{Bool, IsTrue, List, None, Option, Some, [], ap, arith, cond, false, inl, inr, length, map, min, refl, slice_get, slice_index_or, slice_set, subst, suc, sym, take, true, zero, ℕ, ◌++◌, ◌+◌, ◌-◌, ◌<◌, ◌^◌, ◌∙◌, ◌∷◌, ◌≡◌, ◌≤◌}
pub use Rattle.std.proofs.lemmas.List.{append-nil, append_assoc, flat_map_more, length-append, length-map, length_push, map-append}
pub use Rattle.std.proofs.lemmas.List.Elements.{All-append, All-cons, All-nil, All-weaker}
pub use Rattle.std.specs.List.{All, AllZip, count_by, flat_map}
