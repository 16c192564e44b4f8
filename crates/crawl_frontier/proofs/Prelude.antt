-- The names that most proofs cite, passed on from one place. Declares nothing.
pub use Rattle.crawl_frontier.specs.Accounts.{AccountId, Accounts, Agrees, AllKeepRule, AreFound, At, FinishFails, Found, HasSenders, HasUnknownSender, HasWorkers, IsFirstUnsettled, IsFound, IsPart, IsSettled}
pub use Rattle.crawl_frontier.specs.Finishing.{AgreeTo, AgreesBelow, AllAre, AllSettle, AreRaised, AreTrueOf, Begins, CanCompare, CountFails, CountsHold, DisagreesAt, Gathered, HasBook, IdsOf, IsHome, IsShared, KeepRuleBelow, LogIsOf, LogHolds, LogsAreOf, LogsHold, OneDisagrees, OwnRight, Placed, SendersIn, SettlesAt, Slots, HoldsIn, HasOtherSender}
pub use Rattle.crawl_frontier.specs.FreshParts.{AllFresh, AllPop, AllPush, Line}
pub use Rattle.crawl_frontier.specs.Offers.{IsKnown, OfferWordsHolding, Replies}
pub use Rattle.crawl_frontier.specs.Parts.{SeederId, SenderId, ShardId, WorkerId, shard}
pub use Rattle.crawl_frontier.specs.declared.finish.settle.Doubt.{Doubt}
pub use Rattle.crawl_gate.specs.Seat.{GateId, SeatId}
pub use Rattle.crawl_queues.proofs.Entries.{count_of-le, count_of-snoc, rule-numbered, rule-snoc}
pub use Rattle.crawl_queues.proofs.LogLines.{entry_there, log_stays, set_same, there_stays}
pub use Rattle.crawl_queues.specs.Books.{BookId, IsBook, Knows, Numbered, book_accepting, book_of, book_seeing, fresh_book, queue_of, sent_to}
pub use Rattle.crawl_queues.specs.Entries.{KeepsRule, MayFollow, count_of, entries_of, entry, has_url}
pub use Rattle.crawl_queues.specs.Growing.{Stays}
pub use Rattle.crawl_queues.specs.Known.{KnownList, begins_with}
pub use Rattle.crawl_queues.specs.Logs.{AllStay, AreKnown, AreThere, ListsAre, items_of, line_of, lists_of, log_of, says}
pub use Rattle.crawl_queues.specs.PassId.{PassId}
pub use Rattle.crawl_queues.specs.QueueId.{QueueId}
pub use Rattle.crawl_queues.specs.Rule.{home, popping, pushing}
pub use Rattle.crawl_queues.specs.declared.book.Book.{Book}
pub use Rattle.crawl_queues.specs.declared.book.Logged.{Logged}
pub use Rattle.crawl_queues.specs.declared.book.Logged.TheVariants.{Accepted, Seen}
pub use Rattle.crawl_queues.specs.declared.entry.Entry.{Entry}
pub use Rattle.crawl_queues.specs.declared.log.LogLine.{LogLine}
pub use Rattle.hash_index.specs.Lists.{index_of}
pub use Rattle.std.proofs.Common.{Bool, List, None, Option, Some, [], ap, arith, cond, eqb, false, get_or, inl, inr, length, length-append, map, refl, rules, set, slice_get, subst, suc, sym, true, true≢false, vec_len, zero, ℕ, ⊎_elim, ◌++◌, ◌+◌, ◌-◌, ◌<◌, ◌∙◌, ◌∷◌, ◌≡◌, ◌≢◌, ◌≤◌, ◌⊎◌}
pub use Rattle.std.proofs.lemmas.Bool.{cases_lt}
pub use Rattle.std.proofs.lemmas.Bool.Decides.{nat_tests}
pub use Rattle.std.proofs.lemmas.List.{append-nil, append_assoc, map-append, nil_from_length}
pub use Rattle.std.proofs.lemmas.Option.{slice_get-map, slice_get_read, slice_get_within}
pub use Rattle.std.specs.BTreeMap.{BTreeMap, get, is_at}
pub use Rattle.std.specs.BTreeSet.{BTreeSet, contains}
pub use Rattle.std.specs.Ordering.{nat_cmp}
pub use Rattle.std.specs.Prelude.{IsSome, MatchOption, MatchResult, if◌then◌else◌, is_some, option_map, slice_set, unwrap_or, vec_capacity}
