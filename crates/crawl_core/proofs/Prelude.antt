-- The names that most proofs cite, passed on from one place. Declares nothing.
pub use Rattle.crawl_core.specs.Flags.{one_if}
pub use Rattle.crawl_core.specs.GateSide.{GateSide, GateTurn, back, close, end_seeds, enter, enter_with, grant, holds, let_go, look, new_gate, remembers, same_word, shown_word, units_out}
pub use Rattle.crawl_core.specs.Handing.{Hands, can_hand_over, handed_over, has_room, is_fetching, kept_progress, lets_in, progress, progress_of}
pub use Rattle.crawl_core.specs.History.{AcceptsOnce, AreOut, AssignsEachUrl, FetchesOneAtATime, IsAdmitted, LeavesInOrder, NamesItsSubqueue, StaysClosed, TakesInOrder, TakesOnce, TakesAsAdmitted, ReportsClosing, ReportsUnits, accepted_by, accepted_in, accepted_urls, comes_back, comes_out, done_by, done_in, ends_seeds, has_unit, holds_after, is_quiet, last_word, left_in, says_closed, taken_by, taken_urls, stated_count, was_closed, was_ended, word_after}
pub use Rattle.crawl_core.specs.Invariants.{EachSubqueue, GateInvariant, HasRoom, IsAfter, IsFinished, IsState, SubqueueInvariant}
pub use Rattle.crawl_core.specs.Kept.{IsCounted, Kept, KeptQueue, empty_queue, has_seen, has_text, kept_count, number_at, outstanding}
pub use Rattle.crawl_core.specs.Messages.{Message, NumbersInOrder, UrlsDiffer, count_from, has_url, message_with, numbers_of}
pub use Rattle.crawl_core.specs.Run.{IsRun, Run}
pub use Rattle.crawl_core.specs.Shows.{Makes, Shows, ShowsQueue}
pub use Rattle.crawl_core.specs.State.{State, count_of, start, unfinished_in, word_of}
pub use Rattle.crawl_core.specs.Step.{Step, Turn, admit_to, by_gate, counted, done_with, put, take_from, take_oldest, turn, with_subqueue}
pub use Rattle.crawl_core.specs.Subqueue.{Subqueue, after_accepting, after_finishing, after_taking, empty_subqueue, finished, next_message, oldest, unfinished}
pub use Rattle.crawl_core.specs.declared.event.Event.{Event}
pub use Rattle.crawl_core.specs.declared.event.Event.TheVariants.{Admit, Back, Close, Done, EndSeeds, Enter, Look, Take}
pub use Rattle.crawl_core.specs.declared.reply.Reply.{Reply}
pub use Rattle.crawl_core.specs.declared.word.Word.{Word}
pub use Rattle.hash_index.proofs.Listed.{has_index}
pub use Rattle.std.proofs.Common.{Bool, List, MatchOption, None, Option, Ordering, Some, [], ap, arith, cond, drop, eq-eqb, eqb-true, false, filter_map, fold, inl, inr, is_some, length, map, mul-zero, nat_eq, ne_eqb, not, refl, replicate, rules, slice_get, slice_set, subst, suc, sym, take, true, true≢false, unwrap_or, zero, zero-add, ℕ, ◌&&◌, ◌++◌, ◌+◌, ◌-◌, ◌<◌, ◌||◌, ◌∙◌, ◌∷◌, ◌≡◌, ◌≤◌, ◌⊎◌}
pub use Rattle.std.proofs.lemmas.Bool.{cases_lt, eqb-false}
pub use Rattle.std.proofs.lemmas.Bool.Decides.{nat_tests}
pub use Rattle.std.proofs.lemmas.Cmp.{nat_cmp_total, nat_list_eq_equiv}
pub use Rattle.std.proofs.lemmas.Grind.{common_steps}
pub use Rattle.std.proofs.lemmas.List.{append_assoc, drop-append-le, length-drop, length-map, length-replicate, length-set, length_push, map-append, map-id, nil_from_length, take-append-drop, take-append-le, take_more}
pub use Rattle.std.proofs.lemmas.List.Sums.{sum_by-append, sum_by-cons, sum_by-set, sum_by_push}
pub use Rattle.std.proofs.lemmas.Map.Made.{length-remove_key}
pub use Rattle.std.proofs.lemmas.Option.{get_or_from_slice_get, same_Some, slice_get-map, slice_get_past, slice_get_within}
pub use Rattle.std.proofs.lemmas.Slice.Eq.{bytes_eq-Decides}
pub use Rattle.std.specs.BTreeMap.{BTreeMap, Updates, insert_entry, is_at}
pub use Rattle.std.specs.BTreeSet.{insert_key}
pub use Rattle.std.specs.Bool.{if◌then◌else◌}
pub use Rattle.std.specs.List.{AllZip, Contains, cons_option, count_by, filter, list_all, list_any, sum_by, zip}
pub use Rattle.std.specs.Map.{lookup, remove_entry}
pub use Rattle.std.specs.Option.{option_map, option_to_list}
pub use Rattle.std.specs.Ordering.{nat_cmp}
pub use Rattle.std.specs.Set.{remove_key}
pub use Rattle.std.specs.Str.{bytes_eq}
