-- The numbers of a queue, derived from the answers before.
use Rattle.crawl_session.proofs.Prelude.{◌≡◌, ℕ, ◌+◌, ◌-◌, ◌^◌, ◌<◌, true, false, is_some, List, [], ◌∷◌, length, map, take, drop, slice_get, Option, Some, None, option_and_then, option_map, refl, sym, ap, subst, ◌∙◌, arith, get_or_from_slice_get, slice_get_within, one_if, progress, accepted_in, Subqueue, waiting, state_of_history, start_sound, Deferred, IsReported, accepted_of, line_answers, joined_from, joined_of, put_back_of, seen_of, taken_of, Frontier, deferrals_at, start, history_of, state_after, Settings}
use Rattle.std.proofs.lemmas.List.{length-append, length-drop, length-map, take-append-drop}
use Rattle.std.proofs.lemmas.Option.{none-some, same_Some}
use Rattle.std.specs.Prelude.{min}
use Rattle.crawl_session.specs.declared.stats.Stats.{Stats}
use Rattle.crawl_session.specs.Stats.{stats_at, stats_of}
use Rattle.crawl_session.proofs.Conserved.{counted_joins, counted_takes, line_of, settled_after_lines, starts_free, starts_settled}
use Rattle.crawl_session.proofs.InLine.{in_line}
use Rattle.crawl_session.proofs.Joined.{Fine, busy_at, line_at, some_fetch, url_of}
use Rattle.crawl_session.proofs.Onces.{joined_is}
use Rattle.crawl_session.proofs.Queues.{busy_of, queue_at}
use Rattle.crawl_session.proofs.Returns.{busy_is}
use Rattle.crawl_session.proofs.Runs.{session_runs}
use Rattle.crawl_session.proofs.Sees.{sees_accepted}
use Rattle.crawl_session.proofs.SeenCounts.{counted_from_none, long_after}

-- the length of the line is the number of URLs that are still to be taken plus the number that were put back
pub length_in_line : (taken : ℕ) (urls : List (List ℕ)) (ds : List Deferred) → length (in_line taken urls ds) ≡ length urls + length ds
length_in_line taken urls [] = omega arith
length_in_line taken urls (d ∷ ds) =
    let n = d.after - taken in
    let rest = length_in_line (taken + n) (drop n urls) ds in
    let both = length-append (take n urls) (d.url ∷ in_line (taken + n) (drop n urls) ds) in
    let parts = sym (length-append (take n urls) (drop n urls)) ∙ ap length (take-append-drop n urls) in
    omega (arith, rest, both, parts)

-- whether a queue is busy
busy_flags : (found : Subqueue) (fetched : Option Deferred) → (is_some fetched ≡ true → found.busy ≡ false) → (found.busy ≡ true → is_some (busy_at (Some found) None) ≡ true) → one_if found.busy + one_if (is_some fetched) ≡ one_if (is_some (busy_at (Some found) fetched))
busy_flags found fetched apart some = grind arith

-- the number of `seen` is that of the answers
seen_answered : (settings : Settings) (max : ℕ) (lines : List (List ℕ)) (queue seen : ℕ) → slice_get (state_after settings (start settings.workers max) lines).seen queue ≡ Some seen → seen ≡ min (seen_of queue (line_answers settings (start settings.workers max) lines)) (2 ^ 64 - 1)
seen_answered settings max lines queue seen has =
    let state = state_after settings (start settings.workers max) lines in
    let inside = subst (λ n. queue < n) (long_after settings max lines) (slice_get_within state.seen queue seen has) in
    sym (get_or_from_slice_get state.seen queue seen 0 has) ∙ counted_from_none settings max lines queue inside

queue_answered : (settings : Settings) (max : ℕ) (lines : List (List ℕ)) (queue : ℕ) (found : Subqueue) (seen : ℕ) → queue_at (state_after settings (start settings.workers max) lines) queue ≡ Some found → slice_get (state_after settings (start settings.workers max) lines).seen queue ≡ Some seen
    → IsReported queue (line_answers settings (start settings.workers max) lines) (stats_of (progress found) (length (deferrals_at (state_after settings (start settings.workers max) lines) queue).waiting) (is_some (deferrals_at (state_after settings (start settings.workers max) lines) queue).fetched) seen)
queue_answered settings max lines queue found seen at has =
    let begun = start settings.workers max in
    let all = line_answers settings begun lines in
    let state = state_after settings begun lines in
    let history = history_of settings begun lines in
    let deferrals = deferrals_at state queue in
    let fresh = start_sound settings.workers max in
    let settled = starts_settled settings.workers max in
    let both = settled_after_lines settings begun lines fresh settled in
    let inv = both.0.queues queue found at in
    let fine : Fine (Some found) deferrals = subst (λ (o : Option Subqueue). Fine o deferrals) at (both.1.fine queue) in
    let free : one_if (is_some (busy_of begun queue)) ≡ 0 = ap (λ (o : Option (List ℕ)). one_if (is_some o)) (starts_free settings.workers max queue) in
    let line : length (line_of state queue) ≡ length (map url_of (waiting found)) + length deferrals.waiting =
    ap (λ (o : Option Subqueue). length (line_at o deferrals.waiting)) at ∙ length_in_line found.taken (map url_of (waiting found)) deferrals.waiting in
    let mapped = length-map (waiting found) url_of in
    let dropped = length-drop found.taken found.accepted in
    let joined : length (joined_of queue all) ≡ length (taken_of queue all) + length (line_of state queue) =
    ap length (joined_is settings max lines queue) ∙ length-append (taken_of queue all) (line_of state queue) in
    let joins : length (joined_of queue all) ≡ length (accepted_of queue all) + put_back_of queue all =
    ap (λ (o : Option (List ℕ)). length (joined_from queue o all)) (sym (starts_free settings.workers max queue)) ∙ counted_joins settings begun lines queue fresh settled in
    let takes = counted_takes settings begun lines queue fresh settled in
    let accepted : length found.accepted ≡ length (accepted_of queue all) =
    ap length ((state_of_history settings.workers max history state.machine (session_runs settings begun lines)).queues queue found at).accepted
    ∙ sym (length-map (accepted_in queue history) url_of)
    ∙ ap length (sees_accepted settings begun lines queue) in
    let flags : one_if found.busy + one_if (is_some deferrals.fetched) ≡ one_if (is_some (busy_of state queue)) =
    busy_flags found deferrals.fetched fine.apart (some_fetch found inv) ∙ ap (λ (o : Option Subqueue). one_if (is_some (busy_at o deferrals.fetched))) (sym at) in
    let its_reply = busy_is settings begun lines queue None fresh settled (sym (starts_free settings.workers max queue)) in
    record {
      accepted = accepted;
      done = omega (arith, free, line, mapped, dropped, joined, joins, takes, accepted, flags);
      in_progress = flags ∙ ap (λ (o : Option (List ℕ)). one_if (is_some o)) (sym its_reply);
      waiting = omega (arith, free, line, mapped, dropped, joined, joins, takes, accepted, flags);
      seen = seen_answered settings max lines queue seen has;
    }

pub stats_answered : (settings : Settings) (max : ℕ) (lines : List (List ℕ)) (queue : ℕ) (stats : Stats) → stats_at (state_after settings (start settings.workers max) lines) queue ≡ Some stats → IsReported queue (line_answers settings (start settings.workers max) lines) stats
stats_answered settings max lines queue stats is = by_queue (queue_at state queue) refl (slice_get state.seen queue) refl is
  where
    state : Frontier
    state = state_after settings (start settings.workers max) lines

    by_queue : (o : Option Subqueue) → queue_at state queue ≡ o → (m : Option ℕ) → slice_get state.seen queue ≡ m
        → option_and_then (λ p. option_map (stats_of p (length (deferrals_at state queue).waiting) (is_some (deferrals_at state queue).fetched)) m) (option_map progress o) ≡ Some stats
        → IsReported queue (line_answers settings (start settings.workers max) lines) stats
    by_queue (Some found) at (Some seen) has is = subst (IsReported queue (line_answers settings (start settings.workers max) lines)) (same_Some _ _ is) (queue_answered settings max lines queue found seen at has)
    by_queue (Some found) at None has is = absurd (none-some _ is)
    by_queue None at m has is = absurd (none-some _ is)
