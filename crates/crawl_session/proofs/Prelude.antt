-- The names that most proofs cite, passed on from one place. Declares nothing.
pub use Rattle.crawl_core.proofs.Counts.{there}
pub use Rattle.crawl_core.proofs.Effects.{cond_both}
pub use Rattle.crawl_core.proofs.GateHistory.{holds_less}
pub use Rattle.crawl_core.proofs.Places.{get_set_other, get_set_same, length-slice_set, sum_at}
pub use Rattle.crawl_core.proofs.RunLaws.{gate_invariant, state_of_history}
pub use Rattle.crawl_core.proofs.RunParts.{eqb_same, start_sound}
pub use Rattle.crawl_core.proofs.Sets.{list_any-insert_key, lookup-insert_entry}
pub use Rattle.crawl_core.proofs.Sound.{Sound, gate_effect, none_unfinished}
pub use Rattle.crawl_core.specs.Fetching.{fetch_of, in_fetch}
pub use Rattle.crawl_core.specs.Flags.{one_if}
pub use Rattle.crawl_core.specs.GateSide.{GateSide, GateTurn, back, close, end_seeds, enter, enter_with, gave_back, grant, holds, let_go, look, remembers, shown_word, turned_away, units_out}
pub use Rattle.crawl_core.specs.Handing.{can_hand_over, handed_over, has_room, is_fetching, lets_in, progress}
pub use Rattle.crawl_core.specs.History.{AcceptsOnce, accepted_in, accepted_urls, holds_after}
pub use Rattle.crawl_core.specs.Invariants.{HasRoom, SubqueueInvariant}
pub use Rattle.crawl_core.specs.Kept.{Kept, has_text}
pub use Rattle.crawl_core.specs.Messages.{Message, has_url}
pub use Rattle.crawl_core.specs.Run.{IsRun, Run}
pub use Rattle.crawl_core.specs.State.{State, count_of, unfinished_in}
pub use Rattle.crawl_core.specs.Step.{Turn, admit_to, by_gate, counted, done_with, put, refused, take_from, take_oldest, turn, with_subqueue}
pub use Rattle.crawl_core.specs.Subqueue.{Subqueue, after_accepting, after_finishing, after_taking, empty_subqueue, next_message, oldest, unfinished, waiting}
pub use Rattle.crawl_core.specs.declared.event.Event.{Event}
pub use Rattle.crawl_core.specs.declared.reply.Reply.{Reply}
pub use Rattle.crawl_core.specs.declared.word.Word.{Word}
pub use Rattle.crawl_keys.specs.Assignment.{subqueue_of}
pub use Rattle.crawl_keys.specs.Outcome.{Gives}
pub use Rattle.crawl_limits.specs.Limits.{AreLimits, line_limit}
pub use Rattle.crawl_replay.proofs.NumberText.{at_space-joined, at_space-number, joined-at_space, number_of_is}
pub use Rattle.crawl_replay.specs.Script.{header_of}
pub use Rattle.crawl_replay.specs.ScriptLines.{IsNumber}
pub use Rattle.crawl_session.specs.Clients.{AgainIfPutBack, AllDone, LineAnswer, EachOnceInOrder, IsReported, NonePutBack, accepted_of, accepts, line_answers, busy_after, busy_before, busy_from, busy_in, done_of, done_urls, elsewhere_of, finishes, first_of_each, joined_from, joined_of, joins, put_back_of, put_back_urls, puts_back, seen_by, seen_of, taken_of, takes, times, elsewhere_url}
pub use Rattle.crawl_session.specs.Compacting.{Had, asks_again, changes, compacted, had_none, having, is_needed, log_line, log_text, needed, says_closed, with_elsewhere}
pub use Rattle.crawl_session.specs.Exchanges.{Exchange, Outcome, accepted_at, admitting, after, by_machine, client, counting, deferring, deferring_taken, ends, entering, exchange, finishing, handing, is_count, is_due, is_empty, is_entered, is_seen, noted, offering, put_back, replies, retaking, seeds_ended, seen_reply, stats_answer, taking, taking_again, taking_next}
pub use Rattle.crawl_session.specs.Frontiers.{Deferrals, Frontier, KeptFrontier, NoneDeferred, deferrals_at, no_deferrals, start, waits_again, with_deferrals}
pub use Rattle.crawl_session.specs.Input.{AnswersWhole, AreWhole, Ends, Holds, IsUnfinished, ServesInput, Turns, held_limit}
pub use Rattle.crawl_session.specs.Listing.{Listed, Lists, done_by, done_in, each_below, pending_at, row_line, stats_at, stats_below, stats_in, taken_each, then_list, url_row}
pub use Rattle.crawl_session.specs.Logs.{next_suffix, numbers_text, settings_line, suffix_from, within_text}
pub use Rattle.crawl_session.specs.Parts.{part_request, own_request, part_with, placed, placed_if, request_for}
pub use Rattle.crawl_session.specs.Requests.{plain_request, request_in, request_of}
pub use Rattle.crawl_session.specs.Serving.{GivesUp, ServesAll, with_words}
pub use Rattle.crawl_session.specs.Sessions.{answered, answers, history_of, line_exchange, state_after}
pub use Rattle.crawl_session.specs.Settings.{SessionView, Settings}
pub use Rattle.crawl_session.specs.Stats.{stats_for, stats_of, waiting_at, waiting_of}
pub use Rattle.crawl_session.specs.declared.answer.Answer.{Answer}
pub use Rattle.crawl_session.specs.declared.answer.Answer.TheVariants.{Counted, Replied, Unasked}
pub use Rattle.crawl_session.specs.declared.deferrals.Deferred.{Deferred}
pub use Rattle.crawl_session.specs.declared.list.Row.{Row}
pub use Rattle.crawl_session.specs.declared.part.Part.{Part}
pub use Rattle.crawl_session.specs.declared.request.Request.{Request}
pub use Rattle.crawl_session.specs.declared.request.Request.TheVariants.{Again, Done, EndSeeds, Later, Next, Offer, Seen, Stats}
pub use Rattle.crawl_session.specs.declared.request.RequestError.{RequestError}
pub use Rattle.hash_index.proofs.Listed.{has_index, same_text}
pub use Rattle.std.proofs.Common.{Bool, Err, IfOk, IfSome, List, None, Ok, OnErr, Option, Result, Some, [], ap, append-nil, append_assoc, arith, codes, cond, drop, eqb-true, false, get_or, if◌then◌else◌, inl, inr, is_some, length, lt-ltb, ltb-false, ltb-true, map, nat_eq, nat_lt, ne_eqb, not, option_and_then, refl, replicate, rules, slice_get, slice_index, slice_set, string_bytes, subst, suc, sym, take, take-append-drop, true, true≢false, zero, ℕ, ◌&&◌, ◌++◌, ◌+◌, ◌-◌, ◌/◌, ◌<◌, ◌==◌, ◌^◌, ◌||◌, ◌∙◌, ◌∷◌, ◌≡◌, ◌≢◌, ◌≤◌, ◌⊎◌}
pub use Rattle.std.proofs.KnownBytes.{Appends-nil, Appends-trans, Consumes-all, Consumes-trans}
pub use Rattle.std.proofs.Math.ListN.{drop_of_length-le, get_or-eq_default}
pub use Rattle.std.proofs.lemmas.Bool.{and_parts, eqb-false}
pub use Rattle.std.proofs.lemmas.Bool.Decides.{nat_tests}
pub use Rattle.std.proofs.lemmas.Cmp.{nat_cmp_total}
pub use Rattle.std.proofs.lemmas.Grind.{common_steps, flat_map-append, get_or_default_zero}
pub use Rattle.std.proofs.lemmas.List.{drop-append-le, get_or-set_other, get_or-set_same, length-append, length-drop, length-map, length-replicate, length-take-le, length_push, map-append, map-id, nil_from_length, take-append-le, take_all, take_rest}
pub use Rattle.std.proofs.lemmas.List.Elements.{All-append, All-cons, All-head, All-nil, All-tail, All-take, filter_map-append}
pub use Rattle.std.proofs.lemmas.List.Splits.{length-slice_split, slice_split-cons_no, slice_split-cons_yes, slice_split_at, slice_split_none}
pub use Rattle.std.proofs.lemmas.List.Sums.{sum_by-append, sum_by-cons, sum_by-set, sum_by_push}
pub use Rattle.std.proofs.lemmas.Option.{get_or_from_slice_get, slice_get-get_or, slice_get_within, unwrap_or-slice_get}
pub use Rattle.std.proofs.lemmas.Slice.Eq.{bytes_eq-Decides}
pub use Rattle.std.specs.BTreeMap.{insert_entry, is_at}
pub use Rattle.std.specs.Fmt.{decimal}
pub use Rattle.std.specs.Io.KnownBytes.{Appends, Consumes, Keeps}
pub use Rattle.std.specs.List.{All, cons_option, filter_map, list_all, list_any, onto_first, slice_split, sum_by, zip}
pub use Rattle.std.specs.Map.{lookup, remove_entry}
pub use Rattle.std.specs.Option.{option_map, option_or, option_to_list}
pub use Rattle.std.specs.Ordering.{nat_cmp}
pub use Rattle.std.specs.Str.{bytes_eq}
pub use Rattle.std.specs.Str.Lines.{lines, lines_of_parts, strip_carriage_return}
pub use Rattle.text_lines.specs.Fields.{at_space, is_space}
