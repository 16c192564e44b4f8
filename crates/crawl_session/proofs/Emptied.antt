-- If an answer says that the frontier is closed, all URLs are done, and no URL is accepted or taken afterwards.
use Rattle.crawl_session.proofs.Prelude.{◌≡◌, ℕ, ◌+◌, ◌≤◌, ◌<◌, Bool, true, false, cond, is_some, List, [], ◌∷◌, ◌++◌, length, map, Option, Some, None, Result, refl, sym, ap, subst, ◌∙◌, arith, append-nil, cons_option, sum_by, option_to_list, drop_of_length-le, get_or-eq_default, sum_by-cons, sum_by-set, slice_get_within, Event, Reply, one_if, accepted_in, Message, Run, State, count_of, Subqueue, eqb_same, start_sound, Sound, gate_effect, none_unfinished, Answer, Replied, Deferred, Request, RequestError, AllDone, accepted_of, line_answers, busy_in, done_of, joined_from, joined_of, joins, put_back_of, taken_of, takes, times, Deferrals, Frontier, deferrals_at, no_deferrals, start, request_for, history_of, line_exchange, state_after, Settings, nil_from_length}
use Rattle.crawl_core.specs.declared.reply.Reply.TheVariants as says
use Rattle.crawl_session.proofs.Closings.{session_closes}
use Rattle.crawl_session.proofs.Compactions.{closes_run, stays_closed}
use Rattle.crawl_session.proofs.Conserved.{counted_joins, counted_takes, line_of, line_sound, settled_after_lines, starts_free, starts_settled}
use Rattle.crawl_session.proofs.Flows.{answered_passes, past}
use Rattle.crawl_session.proofs.Joined.{busy_at, idle_fetch, line_at}
use Rattle.crawl_session.proofs.Onces.{joined_is}
use Rattle.crawl_session.proofs.Owned.{Owned, answered_owned, fetched_units, has_sender, starts_owned, units_in, units_of}
use Rattle.crawl_session.proofs.Queues.{Settled, busy_of, queue_at}
use Rattle.crawl_session.proofs.Returns.{busy_is, sums}
use Rattle.crawl_session.proofs.Runs.{answered_runs, session_runs}
use Rattle.crawl_session.proofs.Sees.{sees_accepted}

-- ---- a state in which no unit is held

-- a queue in which nothing waits and nothing is fetched
record Empties (state : Frontier) (queue : ℕ) : Type 0 where
  line : line_of state queue ≡ []
  busy : busy_of state queue ≡ None

no_units : (state : Frontier) → Owned state → count_of state.machine ≡ 0 → (sender : ℕ) → units_of sender state ≡ 0
no_units state owned none sender = grind (arith, nil_from_length)

own_sender : (d : Deferred) → has_sender d.sender d ≡ 1
own_sender d = ap {B = ℕ} (λ b. cond b 1 0) (eqb_same d.sender)

-- no URL was put back, if none has a sender
none_put_back : (deferrals : Deferrals) → ((sender : ℕ) → units_in sender deferrals ≡ 0) → deferrals ≡ no_deferrals
none_put_back deferrals none = by_parts deferrals.waiting deferrals.fetched none
  where
    by_parts : (ds : List Deferred) (f : Option Deferred) → ((sender : ℕ) → sum_by (has_sender sender) ds + fetched_units sender f ≡ 0) → record { waiting = ds; fetched = f } ≡ no_deferrals
    by_parts [] None none = refl
    by_parts [] (Some d) none = absurd (let own = own_sender d in let no : 0 + has_sender d.sender d ≡ 0 = none d.sender in omega (arith, own, no))
    by_parts (d ∷ ds) f none =
        absurd (let own = own_sender d in let sum = sum_by-cons (has_sender d.sender) d ds in let no = none d.sender in omega (arith, own, sum, no))

nothing_put_back : (state : Frontier) (queue : ℕ) → Settled state → Owned state → count_of state.machine ≡ 0 → deferrals_at state queue ≡ no_deferrals
nothing_put_back state queue settled owned none = by_queue (queue_at state queue) refl
  where
    by_queue : (o : Option Subqueue) → queue_at state queue ≡ o → deferrals_at state queue ≡ no_deferrals
    by_queue None at =
        let beyond : length state.deferrals ≤ queue = subst (λ n. n ≤ queue) (sym settled.shape) (past state.machine.subqueues queue at) in
        get_or-eq_default state.deferrals no_deferrals beyond
    by_queue (Some found) at =
        let below : queue < length state.deferrals = subst (λ n. queue < n) (sym settled.shape) (slice_get_within state.machine.subqueues queue found at) in
        none_put_back (deferrals_at state queue)
        (λ sender. (
        let sum = sum_by-set (units_in sender) state.deferrals queue no_deferrals no_deferrals below in
        let all = no_units state owned none sender in
        let no = no_units_new sender in
        omega (arith, sum, all, no)))
      where
        no_units_new : (sender : ℕ) → units_in sender no_deferrals ≡ 0
        no_units_new sender = refl

empties : (state : Frontier) (queue : ℕ) → Sound state.machine → Settled state → Owned state → count_of state.machine ≡ 0 → Empties state queue
empties state queue sound settled owned none = by_queue (queue_at state queue) refl
  where
    no : deferrals_at state queue ≡ no_deferrals
    no = nothing_put_back state queue settled owned none

    by_queue : (o : Option Subqueue) → queue_at state queue ≡ o → Empties state queue
    by_queue None at = record {
      line = ap (λ (o : Option Subqueue). line_at o (deferrals_at state queue).waiting) at ∙ ap (λ (d : Deferrals). line_at None d.waiting) no;
      busy = ap (λ (o : Option Subqueue). busy_at o (deferrals_at state queue).fetched) at ∙ ap (λ (d : Deferrals). busy_at None d.fetched) no;
    }
    by_queue (Some found) at =
        let inv = sound.queues queue found at in
        let zero_left = none_unfinished state.machine queue found at none in
        let all : length found.accepted ≤ found.taken = omega (arith, zero_left, inv.within, inv.begun) in
        let flag : one_if found.busy ≡ 0 = omega (arith, zero_left, inv.within, inv.begun) in
        let idle : found.busy ≡ false = not_set found.busy flag in
        record {
          line =
              ap (λ (o : Option Subqueue). line_at o (deferrals_at state queue).waiting) at
              ∙ ap (λ (d : Deferrals). line_at (Some found) d.waiting) no
              ∙ ap (map (λ (m : Message). m.url)) (drop_of_length-le found.accepted all);
          busy =
              ap (λ (o : Option Subqueue). busy_at o (deferrals_at state queue).fetched) at
              ∙ ap (λ (d : Deferrals). busy_at (Some found) d.fetched) no
              ∙ idle_fetch found idle;
        }
      where
        not_set : (b : Bool) → one_if b ≡ 0 → b ≡ false
        not_set true flag = absurd (omega (arith, flag))
        not_set false flag = refl

-- ---- all is done

pub owned_after_lines : (settings : Settings) (state : Frontier) (lines : List (List ℕ)) → Sound state.machine → Settled state → Owned state → Owned (state_after settings state lines)
owned_after_lines settings state [] sound settled owned = owned
owned_after_lines settings state (line ∷ more) sound settled owned =
    let r = request_for settings line in
    owned_after_lines settings (line_exchange settings state line).state more (line_sound settings state line sound) (answered_passes state r sound settled).settled (answered_owned state r sound settled owned)

-- what holds of the state after a line with this answer
record Shut (settings : Settings) (max : ℕ) (all : List (List ℕ)) : Type 0 where
  sound : Sound (state_after settings (start settings.workers max) all).machine
  settled : Settled (state_after settings (start settings.workers max) all)
  owned : Owned (state_after settings (start settings.workers max) all)
  closed : (state_after settings (start settings.workers max) all).machine.gate.closed ≡ true

shut : (settings : Settings) (max : ℕ) (front : List (List ℕ)) (line : List ℕ) → (line_exchange settings (state_after settings (start settings.workers max) front) line).answer ≡ Replied says.Closed → Shut settings max (front ++ line ∷ [])
shut settings max front line closed =
    let begun = start settings.workers max in
    let all = front ++ line ∷ [] in
    let closes = session_closes settings begun front line closed in
    let fresh = start_sound settings.workers max in
    let settled = starts_settled settings.workers max in
    let both = settled_after_lines settings begun all fresh settled in
    record {
      sound = both.0;
      settled = both.1;
      owned = owned_after_lines settings begun all fresh settled (starts_owned settings.workers max);
      closed = closes_run begun.machine closes.before closes.last (state_after settings begun all).machine fresh (subst (λ h. Run begun.machine h (state_after settings begun all).machine) closes.is (session_runs settings begun all));
    }

pub all_is_done : (settings : Settings) (max : ℕ) (front : List (List ℕ)) (line : List ℕ) → (line_exchange settings (state_after settings (start settings.workers max) front) line).answer ≡ Replied says.Closed → AllDone (line_answers settings (start settings.workers max) (front ++ line ∷ []))
all_is_done settings max front line closed =
    let begun = start settings.workers max in
    let all = front ++ line ∷ [] in
    let end = state_after settings begun all in
    let told_all = line_answers settings begun all in
    let is_shut = shut settings max front line closed in
    let none : count_of end.machine ≡ 0 = is_shut.sound.empty is_shut.closed in
    let empty : (queue : ℕ) → Empties end queue = λ queue. empties end queue is_shut.sound is_shut.settled is_shut.owned none in
    let fresh = start_sound settings.workers max in
    let settled = starts_settled settings.workers max in
    let taken : (queue : ℕ) → taken_of queue told_all ≡ joined_of queue told_all =
    λ queue. sym (joined_is settings max all queue ∙ ap (λ (l : List (List ℕ)). taken_of queue told_all ++ l) (empty queue).line ∙ append-nil (taken_of queue told_all)) in
    let free : (queue : ℕ) → one_if (is_some (busy_of begun queue)) ≡ 0 = λ queue. ap (λ (o : Option (List ℕ)). one_if (is_some o)) (starts_free settings.workers max queue) in
    let idle : (queue : ℕ) → one_if (is_some (busy_of end queue)) ≡ 0 = λ queue. ap (λ (o : Option (List ℕ)). one_if (is_some o)) (empty queue).busy in
    let ended : (queue : ℕ) → done_of queue told_all + put_back_of queue told_all ≡ length (taken_of queue told_all) =
    λ queue. (let counts = counted_takes settings begun all queue fresh settled in let none_then = free queue in let none_now = idle queue in omega (arith, counts, none_then, none_now)) in
    record {
      taken = taken;
      ended = ended;
      done = λ queue.
          let joined : length (joined_of queue told_all) ≡ length (accepted_of queue told_all) + put_back_of queue told_all =
          ap (λ (o : Option (List ℕ)). length (joined_from queue o told_all)) (sym (starts_free settings.workers max queue)) ∙ counted_joins settings begun all queue fresh settled in
          let same = ap length (taken queue) in
          let over = ended queue in
          omega (arith, joined, same, over);
      each = λ queue url.
          let sum = sums settings max all queue url in
          let none_now : times url (option_to_list (busy_in queue told_all)) ≡ 0 = ap (λ (o : Option (List ℕ)). times url (option_to_list o)) (busy_is settings begun all queue None fresh settled (sym (starts_free settings.workers max queue)) ∙ (empty queue).busy) in
          let same = ap (times url) (taken queue) in
          let joined = sum.joined in
          let over = sum.ended in
          omega (arith, joined, same, over, none_now);
    }

-- ---- and nothing happens afterwards

-- a run from a closed gate accepts nothing
closed_run : (queue : ℕ) (old : State) (history : List (Event × Reply)) (new : State) → Sound old → old.gate.closed ≡ true → Run old history new → accepted_in queue history ≡ []
closed_run queue old [] new sound closed run = refl
closed_run queue old (x ∷ xs) new sound closed run = grind (arith, gate_effect, closed_run queue run.0 xs)

-- nothing is taken if nothing waits before or afterwards
takes_none : (queue : ℕ) (r : Result Request RequestError) (answer : Answer) (busy : Option (List ℕ)) → option_to_list (joins queue busy (record { request = r; answer = answer })) ≡ option_to_list (takes queue r answer) ++ [] → takes queue r answer ≡ None
takes_none queue r answer busy same = grind arith

closed_takes : (settings : Settings) (state : Frontier) (lines : List (List ℕ)) (queue : ℕ) → Sound state.machine → Settled state → Owned state → state.machine.gate.closed ≡ true → taken_of queue (line_answers settings state lines) ≡ []
closed_takes settings state [] queue sound settled owned closed = refl
closed_takes settings state (line ∷ more) queue sound settled owned closed =
    let r = request_for settings line in
    let here = line_exchange settings state line in
    let passes = answered_passes state r sound settled in
    let next_sound = line_sound settings state line sound in
    let next_owned = answered_owned state r sound settled owned in
    let next_closed = stays_closed state.machine here.history here.state.machine sound closed (answered_runs state r) in
    let before = empties state queue sound settled owned (sound.empty closed) in
    let following = empties here.state queue next_sound passes.settled next_owned (next_sound.empty next_closed) in
    let flow = (passes.flow queue).line in
    let same : option_to_list (joins queue (busy_of state queue) (record { request = r; answer = here.answer })) ≡ option_to_list (takes queue r here.answer) ++ [] =
    ap (λ (l : List (List ℕ)). l ++ option_to_list (joins queue (busy_of state queue) (record { request = r; answer = here.answer }))) (sym before.line) ∙ flow ∙ ap (λ (l : List (List ℕ)). option_to_list (takes queue r here.answer) ++ l) following.line in
    ap (λ (o : Option (List ℕ)). cons_option o (taken_of queue (line_answers settings here.state more))) (takes_none queue r here.answer (busy_of state queue) same)
    ∙ closed_takes settings here.state more queue next_sound passes.settled next_owned next_closed

pub closed_for_good : (settings : Settings) (max : ℕ) (front : List (List ℕ)) (line : List ℕ) (back : List (List ℕ)) (queue : ℕ) → (line_exchange settings (state_after settings (start settings.workers max) front) line).answer ≡ Replied says.Closed
    → (accepted_of queue (line_answers settings (state_after settings (start settings.workers max) (front ++ line ∷ [])) back) ≡ []) × (taken_of queue (line_answers settings (state_after settings (start settings.workers max) (front ++ line ∷ [])) back) ≡ [])
closed_for_good settings max front line back queue closed =
    let here = state_after settings (start settings.workers max) (front ++ line ∷ []) in
    let is_shut = shut settings max front line closed in (
      sym (sees_accepted settings here back queue) ∙ ap (map (λ (m : Message). m.url)) (closed_run queue here.machine (history_of settings here back) (state_after settings here back).machine is_shut.sound is_shut.closed (session_runs settings here back)),
      closed_takes settings here back queue is_shut.sound is_shut.settled is_shut.owned is_shut.closed,
    )
