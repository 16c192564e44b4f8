-- The names that most proofs cite, passed on from one place. Declares nothing.
pub use Rattle.crawl_core.proofs.Places.{get_set_other, get_set_same, length-slice_set, set_cases, slice_get-map, slice_get-take, sum_at}
pub use Rattle.crawl_core.proofs.RunLaws.{closed_means_finished, gate_invariant}
pub use Rattle.crawl_core.proofs.RunParts.{eqb_same, run_sound, start_count}
pub use Rattle.crawl_core.proofs.Sets.{list_any-insert_key, lookup-insert_entry}
pub use Rattle.crawl_core.proofs.Sound.{GateEffect, Sound, gate_effect, holder_counts, length-insert_key, some_is}
pub use Rattle.crawl_core.specs.Flags.{one_if}
pub use Rattle.crawl_core.specs.Run.{Run}
pub use Rattle.crawl_core.specs.State.{State, count_of, start, unfinished_in, word_of}
pub use Rattle.crawl_core.specs.Subqueue.{Subqueue, after_accepting, after_finishing, after_taking, empty_subqueue, unfinished}
pub use Rattle.crawl_core.specs.declared.event.Event.{Event}
pub use Rattle.crawl_core.specs.declared.event.Event.TheVariants.{Admit, Back, Close, Done, EndSeeds, Enter, Look, Take}
pub use Rattle.crawl_core.specs.declared.reply.Reply.{Reply}
pub use Rattle.crawl_gate.specs.GateError.{IsMaximum}
pub use Rattle.crawl_gate.specs.GateInvariant.{GateInvariant, Moment}
pub use Rattle.crawl_gate.specs.History.{GateStep, SeatSteps, first_moment}
pub use Rattle.crawl_gate.specs.Seat.{GateId}
pub use Rattle.crawl_gate.specs.View.{fresh_view, opening_view, view_closing, view_entering, view_leaving, view_looking, view_losing, view_not_closing}
pub use Rattle.crawl_gate.specs.Word.{Word, bits, closed_at, open_at}
pub use Rattle.crawl_gate.specs.declared.rule.View.{View}
pub use Rattle.crawl_queues.proofs.Histories.{accepted_lists, step_moves}
pub use Rattle.crawl_queues.specs.Entries.{KeepsRule, MayFollow, has_url}
pub use Rattle.crawl_queues.specs.Rule.{SubqueueInvariant, home, no_home, plain, popping, pushing, reunited, spent, undivided}
pub use Rattle.crawl_queues.specs.declared.entry.Entry.{Entry}
pub use Rattle.crawl_queues.specs.declared.entry.Message.{Message}
pub use Rattle.crawl_queues.specs.declared.rule.Home.{Home}
pub use Rattle.crawl_queues.specs.declared.rule.PassView.{PassView}
pub use Rattle.crawl_tie.specs.Acts.{Act, Atomic, Closes, Closing, Counting, Entering, Enters, FindsNothing, History, IsOwner, IsUnitOf, LeavesFetch, LeavesOffer, LeavesSeeds, LeavesSeen, Leaving, Looking, Looks, LooksAway, Loses, Losing, NotClosesClosed, NotClosesPending, NotClosing, Popping, Pops, PopsNone, Pushes, Pushing, Splits, Splitting, IsSent, TakesIn, TakingIn, after_entering, after_fetching, after_leaving, after_looking, after_pushing, after_seeding, after_splitting, core_word, is_offering, loaded_by, with_gate, with_lane}
pub use Rattle.crawl_tie.specs.Headline.{Delivers, Finished, accepted, delivered, fetched_at, fetches_done, is_closing, is_quiet, popped_from, pushed_to}
pub use Rattle.crawl_tie.specs.Parts.{GateMoves, IsDivided, IsMaking, IsUnited, LaneMoves, UnitsAreOwned, closing_one, counting_one, entering_one, is_owned, leaving_one, looking_one, losing_one, not_closing_one, popping_one, pushing_one, splitting_one, taking_in_one}
pub use Rattle.crawl_tie.specs.Shows.{CountsUnits, HasLists, IsPlaced, ListsKeep, ShowsGate, ShowsLane, ShowsLists, ShowsWhole, events, events_of, message_of}
pub use Rattle.crawl_tie.specs.Whole.{IsFirst, Lane, Offer, Owner, Seeds, Sent, Whole, fresh_lane, made}
pub use Rattle.std.proofs.Common.{Bool, List, None, Option, Some, [], ap, append_assoc, arith, drop, eq-eqb, eqb-true, false, filter_map, inl, inr, length, map, nat_eq, ne_eqb, not, refl, replicate, set, slice_get, slice_set, subst, suc, sym, take, true, true≢false, zero, ℕ, ⊎_elim, ◌&&◌, ◌++◌, ◌+◌, ◌<◌, ◌^◌, ◌||◌, ◌∙◌, ◌∷◌, ◌≡◌, ◌≢◌, ◌≤◌, ◌⊎◌}
pub use Rattle.std.proofs.lemmas.Bool.{or_left, or_right}
pub use Rattle.std.proofs.lemmas.Cmp.{nat_cmp_total, tied_itself}
pub use Rattle.std.proofs.lemmas.List.{append-nil, get_or-replicate, length-append, length-map, length-replicate, length_push, map-append, map-set, nil_from_length}
pub use Rattle.std.proofs.lemmas.List.Elements.{filter_map-append}
pub use Rattle.std.proofs.lemmas.Option.{get_or_from_slice_get, slice_get-get_or, slice_get_past, slice_get_within}
pub use Rattle.std.specs.BTreeMap.{insert_entry, is_at}
pub use Rattle.std.specs.BTreeSet.{insert_key}
pub use Rattle.std.specs.List.{list_all, list_any}
pub use Rattle.std.specs.Option.{option_map, option_to_list}
pub use Rattle.std.specs.Ordering.{nat_cmp}
pub use Rattle.std.specs.Set.{remove_key}
pub use Rattle.std.specs.Str.{bytes_eq}
pub use lib.ListN.{get_elem?}
pub use mathlib.Core.Option.{some, some-injective, some-ne-none}
