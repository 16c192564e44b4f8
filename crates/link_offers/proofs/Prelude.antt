-- The names that most proofs cite, passed on from one place. Declares nothing.
pub use Rattle.crawl_frontier.specs.declared.error.OfferError.{OfferError}
pub use Rattle.crawl_frontier.specs.declared.offer.Offer.{Offer}
pub use Rattle.crawl_keys.specs.HostFilter.{allows}
pub use Rattle.crawl_queues.specs.declared.book.Logged.{Logged}
pub use Rattle.link_offers.specs.Logs.{AllLogged, Grows, HasLine, line_of}
pub use Rattle.link_offers.specs.Offers.{HaveResults, LinkResult, HasResult, IsOffer, LinkResults, listed, losses_by, with_losses}
pub use Rattle.link_offers.specs.Recent.{AllKnown, Knows, url_in}
pub use Rattle.link_offers.specs.declared.recent.RecentUrls.{RecentUrls}
pub use Rattle.link_offers.specs.declared.recent.Slot.{Slot}
pub use Rattle.std.proofs.Common.{Bool, Err, IfSome, IsTrue, List, None, Ok, Option, Result, Some, [], ap, arith, cond, length, map, refl, slice_index_or, slice_set, subst, sym, take, vec_len, ℕ, ◌++◌, ◌+◌, ◌<◌, ◌∙◌, ◌∷◌, ◌≡◌, ◌≤◌}
pub use Rattle.std.proofs.lemmas.Grind.{common_steps, flat_map-append}
pub use Rattle.std.proofs.lemmas.List.{append-nil, append_assoc, length-append, map-append, set-get_or, take_more}
pub use Rattle.std.proofs.lemmas.List.Elements.{All-cons, All-nil, All-pop, All-push, All-weaker, Contains-append_left, Contains-push}
