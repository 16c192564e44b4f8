-- What happens in each queue is what the answers say.
use Rattle.crawl_session.proofs.Prelude.{common_steps, ◌≡◌, ◌⊎◌, inl, inr, ℕ, zero, suc, ◌≤◌, Bool, true, false, not, ◌&&◌, ◌||◌, if◌then◌else◌, is_some, List, [], ◌∷◌, length, slice_get, slice_set, Option, Some, None, Result, Ok, Err, refl, sym, ap, subst, ◌∙◌, arith, true≢false, get_or-eq_default, Reply, fetch_of, in_fetch, GateTurn, gave_back, holds, let_go, turned_away, can_hand_over, is_fetching, Message, has_url, State, count_of, unfinished_in, Turn, turn, admit_to, counted, done_with, put, refused, take_from, with_subqueue, Subqueue, after_accepting, after_finishing, after_taking, next_message, oldest, there, cond_both, Sound, Answer, Replied, Deferred, Request, Offer, Next, Again, Later, Done, EndSeeds, Seen, Stats, RequestError, finishes, joins, puts_back, takes, Exchange, Outcome, accepted_at, admitting, after, by_machine, client, deferring, deferring_taken, ends, exchange, finishing, handing, is_count, is_due, is_empty, is_entered, is_seen, noted, offering, put_back, replies, retaking, seeds_ended, taking, taking_again, taking_next, Deferrals, Frontier, deferrals_at, waits_again, with_deferrals, answered}
use Rattle.crawl_core.specs.declared.event.Event.TheVariants as event
use Rattle.crawl_core.specs.declared.reply.Reply.TheVariants as says
use Rattle.crawl_core.specs.declared.reply.Refusal.TheVariants as why
use Rattle.crawl_session.specs.Exchanges as exchanges
use Rattle.crawl_session.proofs.Choices.{either_way}
use Rattle.crawl_session.proofs.InLine.{Within, within_push}
use Rattle.crawl_session.proofs.Joined.{Fine, Flow, busy_at, fine_accepts, flow_accepts, flow_defers, flow_defers_again, flow_finishes, flow_finishes_again, flow_retakes, flow_still, flow_takes}
use Rattle.crawl_session.proofs.Queues.{Change, Passes, Quietly, Settled, as_answered, busy_of, change_both, change_deferrals, change_queue, flow_after, passes_gate, passes_still, queue_at, settled_after}
use Rattle.crawl_session.proofs.Sees.{entry_says, is_other}

-- ---- an offer

abbrev as_offer : List ℕ → ℕ → Result Request RequestError
as_offer url named = Ok (Offer url named)

-- the queue has one more URL, or nothing happens
abbrev Accepts : State → List ℕ → ℕ → Exchange → Type 0
Accepts state url named x =
    (found : Subqueue) × ((number : ℕ) × ((slice_get state.subqueues named ≡ Some found) × ((x.answer ≡ Replied (says.Accepted named number)) × (x.state.subqueues ≡ slice_set state.subqueues named (after_accepting found (next_message found client url))))))

abbrev Offers : State → List ℕ → ℕ → Exchange → Type 0
Offers state url named x = ((x.state.subqueues ≡ state.subqueues) × Quietly (as_offer url named) x.answer) ⊎ Accepts state url named x

other_quiet : (url : List ℕ) (named : ℕ) (reply : Reply) → is_other reply ≡ true → Quietly (as_offer url named) (Replied reply)
unfolding is_other
other_quiet url named reply other = grind arith

-- what comes of an admission by its turn
abbrev admitted_by : Turn → List ℕ → ℕ → Exchange
admitted_by done url named =
    let rest = if is_seen done.reply then after done.state (event.Back client) (λ _ left. ends says.Seen left) else ends done.reply done.state in
    record rest { history = (event.Admit client url named, done.reply) ∷ rest.history }

admits : (state : State) (url : List ℕ) (named : ℕ) (queue : Option Subqueue) → slice_get state.subqueues named ≡ queue → Offers state url named (admitted_by (admit_to state client url named queue) url named)
admits state url named None at = inl (refl, λ queue busy. (refl, (refl, refl)))
admits state url named (Some found) at =
    either_way (λ (t : Turn). Offers state url named (admitted_by t url named)) (not (holds state.gate client)) (refused state why.Nothing) (if has_url found.accepted url then record { reply = says.Seen; state = state } else put state client url named found)
    (inl (refl, λ queue busy. (refl, (refl, refl))))
    (either_way (λ (t : Turn). Offers state url named (admitted_by t url named)) (has_url found.accepted url) (record { reply = says.Seen; state = state }) (put state client url named found)
    (inl (refl, λ queue busy. (refl, (refl, refl))))
    (inr (found, ((next_message found client url).number, (at, (refl, refl))))))

offers : (state : State) (url : List ℕ) (named : ℕ) → Offers state url named (offering state url named)
offers state url named =
    let looked = (turn state (event.Look client)).state in
    let entered = turn looked (event.Enter client) in
    either_way (λ (x : Exchange). Offers state url named x) (is_entered entered.reply) (admitting entered.state url named) (ends entered.reply entered.state)
    (admits entered.state url named (slice_get state.subqueues named) refl)
    (inl (refl, other_quiet url named entered.reply (entry_says looked client)))

offer_passes : (state : Frontier) (url : List ℕ) (named : ℕ) (x : Exchange) → Sound state.machine → Settled state → Offers state.machine url named x → Passes state (as_offer url named) (by_machine state x)
offer_passes state url named x sound settled (inl same) = passes_gate state (as_offer url named) x settled same.0 same.1
offer_passes state url named x sound settled (inr (found, (number, (at, (answer, is))))) =
    let m = next_message found client url in
    let deferrals = deferrals_at state named in
    let fine : Fine (Some found) deferrals = subst (λ (o : Option Subqueue). Fine o deferrals) at (settled.fine named) in
    let change = change_queue state x.state named found (after_accepting found m) settled at is in
    let flow = subst (λ (o : Option Subqueue). Flow o deferrals (Some url) None false (Some (after_accepting found m)) deferrals) (sym at) (flow_accepts found m deferrals (sound.queues named found at) fine) in
    record {
      settled = settled_after state (record state { machine = x.state }) named (Some (after_accepting found m)) deferrals settled change (fine_accepts found m deferrals fine);
      flow = λ queue. subst (λ (a : Answer). Flow (queue_at state queue) (deferrals_at state queue) (joins queue (busy_of state queue) (as_answered (as_offer url named) a)) (takes queue (as_offer url named) a) (finishes queue (as_offer url named) a || puts_back queue (as_offer url named) a) (slice_get x.state.subqueues queue) (deferrals_at state queue)) (sym answer)
          (flow_after state (record state { machine = x.state }) named (Some (after_accepting found m)) deferrals (λ _ b. if b then Some url else None) (λ _ _. None) (λ _. false) change flow (λ there. (refl, (refl, refl))) queue);
    }

-- the numbers of `seen` are no part of a queue
noted_passes : (state : Frontier) (r : Result Request RequestError) (named : ℕ) (x : Outcome) → Passes state r x → Passes state r (noted named x)
noted_passes state r named x passes = record { settled = record { shape = passes.settled.shape; fine = passes.settled.fine }; flow = passes.flow }

-- ---- `next`

abbrev as_next : ℕ → Result Request RequestError
as_next named = Ok (Next named)

abbrev TakesOne : State → ℕ → Exchange → Type 0
TakesOne state named x =
    (found : Subqueue) × ((m : Message) × ((slice_get state.subqueues named ≡ Some found) × ((found.busy ≡ false) × ((oldest found ≡ Some m) × ((x.answer ≡ Replied (says.Taken m.url)) × (x.state.subqueues ≡ slice_set state.subqueues named (after_taking found)))))))

abbrev Takes : State → ℕ → Exchange → Type 0
Takes state named x = ((x.state.subqueues ≡ state.subqueues) × Quietly (as_next named) x.answer) ⊎ TakesOne state named x

abbrev taken_by : Turn → ℕ → Exchange
taken_by done named =
    let rest = if is_empty done.reply then after done.state event.Close ends else ends done.reply done.state in
    record rest { history = (event.Take named, done.reply) ∷ rest.history }

takes_from : (state : State) (named : ℕ) (queue : Option Subqueue) → slice_get state.subqueues named ≡ queue → Takes state named (taken_by (take_from state named queue) named)
takes_from state named None at = inl (refl, λ queue busy. (refl, (refl, refl)))
takes_from state named (Some found) at = grind (arith, cond_both)

take_passes : (state : Frontier) (named : ℕ) (x : Exchange) → Settled state → (deferrals_at state named).fetched ≡ None → is_due (queue_at state named) (deferrals_at state named).waiting ≡ false → Takes state.machine named x → Passes state (as_next named) (by_machine state x)
take_passes state named x settled none due (inl same) = passes_gate state (as_next named) x settled same.0 same.1
take_passes state named x settled none due (inr (found, (m, (at, (idle, (first, (answer, is))))))) =
    let deferrals = deferrals_at state named in
    let fine : Fine (Some found) deferrals = subst (λ (o : Option Subqueue). Fine o deferrals) at (settled.fine named) in
    let not_due : is_due (Some found) deferrals.waiting ≡ false = ap (λ (o : Option Subqueue). is_due o deferrals.waiting) (sym at) ∙ due in
    let change = change_queue state x.state named found (after_taking found) settled at is in
    let taken : Fine (Some (after_taking found)) deferrals = record { within = fine.within; apart = λ some. absurd (true≢false (sym some ∙ ap is_some none)) } in
    let flow = subst (λ (o : Option Subqueue). Flow o deferrals None (Some m.url) false (Some (after_taking found)) deferrals) (sym at) (flow_takes found m deferrals first idle none not_due) in
    record {
      settled = settled_after state (record state { machine = x.state }) named (Some (after_taking found)) deferrals settled change taken;
      flow = λ queue. subst (λ (a : Answer). Flow (queue_at state queue) (deferrals_at state queue) (joins queue (busy_of state queue) (as_answered (as_next named) a)) (takes queue (as_next named) a) (finishes queue (as_next named) a || puts_back queue (as_next named) a) (slice_get x.state.subqueues queue) (deferrals_at state queue)) (sym answer)
          (flow_after state (record state { machine = x.state }) named (Some (after_taking found)) deferrals (λ _ _. None) (λ _ b. if b then Some m.url else None) (λ _. false) change flow (λ there. (refl, (refl, refl))) queue);
    }

retake_passes : (state : Frontier) (named : ℕ) (queue : Option Subqueue) (waiting : List Deferred) → queue_at state named ≡ queue → (deferrals_at state named).waiting ≡ waiting → Settled state → (deferrals_at state named).fetched ≡ None → is_due queue waiting ≡ true → Passes state (as_next named) (retaking state named waiting)
retake_passes state named None [] at waits settled none due = absurd (true≢false (sym due))
retake_passes state named None (first ∷ more) at waits settled none due = absurd (true≢false (sym due))
retake_passes state named (Some found) [] at waits settled none due = absurd (true≢false (sym due))
retake_passes state named (Some found) (first ∷ more) at waits settled none due =
    let deferrals = deferrals_at state named in
    let after_it : Deferrals = record { waiting = more; fetched = Some first } in
    let fine : Fine (Some found) deferrals = subst (λ (o : Option Subqueue). Fine o deferrals) at (settled.fine named) in
    let change = change_deferrals state named found after_it settled at in
    let retaken : Fine (Some found) after_it = record { within = (subst (λ (l : List Deferred). Within (length found.accepted) l) waits fine.within).1; apart = λ _. free found.busy _ due } in
    let flow = subst (λ (o : Option Subqueue). Flow o deferrals None (Some first.url) false (Some found) after_it) (sym at) (flow_retakes found first more deferrals waits none due) in
    record {
      settled = settled_after state (with_deferrals state named after_it) named (Some found) after_it settled change retaken;
      flow = λ queue. flow_after state (with_deferrals state named after_it) named (Some found) after_it (λ _ _. None) (λ _ b. if b then Some first.url else None) (λ _. false) change flow (λ there. (refl, (refl, refl))) queue;
    }
  where
    free : (b c : Bool) → (not b && c) ≡ true → b ≡ false
    free b c e = grind arith

next_passes : (state : Frontier) (named : ℕ) (fetched : Option Deferred) → (deferrals_at state named).fetched ≡ fetched → Settled state → Passes state (as_next named) (taking_next state named (deferrals_at state named).waiting fetched)
next_passes state named (Some url) is settled = passes_still state (as_next named) (says.Refused why.Busy) settled (λ queue busy. (refl, (refl, refl)))
next_passes state named None is settled =
    cond_both (Passes state (as_next named)) (is_due (queue_at state named) (deferrals_at state named).waiting) (retaking state named (deferrals_at state named).waiting) (by_machine state (taking state.machine named))
    (λ due. retake_passes state named (queue_at state named) (deferrals_at state named).waiting refl refl settled is due)
    (λ early. take_passes state named (taking state.machine named) settled is early (takes_from state.machine named (slice_get state.machine.subqueues named) refl))

-- ---- `done`

abbrev as_done : ℕ → Result Request RequestError
as_done named = Ok (Done named)

abbrev Finishes : State → ℕ → Exchange → Type 0
Finishes state named x =
    (found : Subqueue) × ((left : ℕ) × ((slice_get state.subqueues named ≡ Some found) × ((found.busy ≡ true) × ((x.answer ≡ Replied (says.Count left)) × (x.state.subqueues ≡ slice_set state.subqueues named (after_finishing found))))))

abbrev Ends : State → ℕ → Exchange → Type 0
Ends state named x = ((x.state.subqueues ≡ state.subqueues) × Quietly (as_done named) x.answer) ⊎ Finishes state named x

ends_from : (state : State) (named : ℕ) (queue : Option Subqueue) → slice_get state.subqueues named ≡ queue → Ends state named (record { history = (event.Done named, (done_with state named queue).reply) ∷ []; answer = Replied (done_with state named queue).reply; state = (done_with state named queue).state })
ends_from state named None at = inl (refl, λ queue busy. (refl, (refl, refl)))
ends_from state named (Some found) at =
    cond_both (λ (t : Turn). Ends state named (record { history = (event.Done named, t.reply) ∷ []; answer = Replied t.reply; state = t.state })) found.busy (counted (with_subqueue state named (after_finishing found))) (refused state why.Nothing)
    (λ busy. inr (found, (count_of (with_subqueue state named (after_finishing found)), (at, (busy, (refl, refl))))))
    (λ idle. inl (refl, λ queue busy. (refl, (refl, refl))))

-- a fetch of another URL than those that were put back
idle_deferrals : (queue : Subqueue) (deferrals : Deferrals) → Fine (Some queue) deferrals → queue.busy ≡ true → deferrals.fetched ≡ None
idle_deferrals queue deferrals fine busy = grind arith

done_passes : (state : Frontier) (named : ℕ) (x : Exchange) → Sound state.machine → Settled state → Ends state.machine named x → Passes state (as_done named) (by_machine state x)
done_passes state named x sound settled (inl same) = passes_gate state (as_done named) x settled same.0 same.1
done_passes state named x sound settled (inr (found, (left, (at, (busy, (answer, is)))))) =
    let deferrals = deferrals_at state named in
    let fine : Fine (Some found) deferrals = subst (λ (o : Option Subqueue). Fine o deferrals) at (settled.fine named) in
    let none = idle_deferrals found deferrals fine busy in
    let change = change_queue state x.state named found (after_finishing found) settled at is in
    let finished : Fine (Some (after_finishing found)) deferrals = record { within = fine.within; apart = λ some. refl } in
    let flow = subst (λ (o : Option Subqueue). Flow o deferrals None None true (Some (after_finishing found)) deferrals) (sym at) (flow_finishes found deferrals (sound.queues named found at) busy none) in
    record {
      settled = settled_after state (record state { machine = x.state }) named (Some (after_finishing found)) deferrals settled change finished;
      flow = λ queue. subst (λ (a : Answer). Flow (queue_at state queue) (deferrals_at state queue) (joins queue (busy_of state queue) (as_answered (as_done named) a)) (takes queue (as_done named) a) (finishes queue (as_done named) a || puts_back queue (as_done named) a) (slice_get x.state.subqueues queue) (deferrals_at state queue)) (sym answer)
          (flow_after state (record state { machine = x.state }) named (Some (after_finishing found)) deferrals (λ _ _. None) (λ _ _. None) (λ b. b || false) change flow (λ there. (refl, (refl, refl))) queue);
    }

-- a queue to which a URL was put back is one of the machine's
pub past : {A : Type 0} (xs : List A) (i : ℕ) → slice_get xs i ≡ None → length xs ≤ i
past [] i none = omega arith
past (x ∷ xs) zero none = absurd (cc)
past (x ∷ xs) (suc i) none = let more = past xs i none in omega (arith, more)

pub in_range : (state : Frontier) (named : ℕ) (d : Deferred) → Settled state → (deferrals_at state named).fetched ≡ Some d → (found : Subqueue) × (queue_at state named ≡ Some found)
in_range state named d settled is = grind (arith, queue_at, past, get_or-eq_default)

-- what comes of a sender's unit that is given back
abbrev back_by : Frontier → ℕ → ℕ → GateTurn → Outcome
back_by state named sender t =
    let left : Frontier = record state { machine = record state.machine { gate = t.gate } } in
    record {
      history = (event.Back sender, t.reply) ∷ [];
      answer = Replied t.reply;
      state = if is_count t.reply then with_deferrals left named (record { waiting = (deferrals_at state named).waiting; fetched = None }) else left;
    }

finish_again_passes : (state : Frontier) (named : ℕ) (d : Deferred) (found : Subqueue) → queue_at state named ≡ Some found → (deferrals_at state named).fetched ≡ Some d → Settled state → Passes state (as_done named) (finishing state named (Some d))
finish_again_passes state named d found at is settled =
    let gate = state.machine.gate in
    let messages = unfinished_in state.machine in
    either_way (λ (t : GateTurn). Passes state (as_done named) (back_by state named d.sender t)) (holds gate d.sender) (gave_back (let_go gate d.sender) messages) (turned_away gate why.Nothing)
    given (let still = passes_still state (as_done named) (says.Refused why.Nothing) settled (λ queue busy. (refl, (refl, refl))) in record { settled = still.settled; flow = still.flow })
  where
    deferrals : Deferrals
    deferrals = deferrals_at state named

    after_it : Deferrals
    after_it = record { waiting = (deferrals_at state named).waiting; fetched = None }

    given : Passes state (as_done named) (back_by state named d.sender (gave_back (let_go state.machine.gate d.sender) (unfinished_in state.machine)))
    given =
        let new : Frontier = with_deferrals (record state { machine = record state.machine { gate = let_go state.machine.gate d.sender } }) named after_it in
        let fine : Fine (Some found) deferrals = subst (λ (o : Option Subqueue). Fine o deferrals) at (settled.fine named) in
        let same = change_deferrals state named found after_it settled at in
        let change : Change state new named (Some found) after_it = record { shape = same.shape; here = same.here; here_too = same.here_too; other = same.other; other_too = same.other_too } in
        let idle : is_fetching (Some found) ≡ false = fine.apart (ap is_some is) in
        let flow = subst (λ (o : Option Subqueue). Flow o deferrals None None true (Some found) after_it) (sym at) (flow_finishes_again (Some found) d deferrals idle is) in
        record {
          settled = settled_after state new named (Some found) after_it settled change (record { within = fine.within; apart = λ some. absurd (true≢false (sym some)) });
          flow = λ queue. flow_after state new named (Some found) after_it (λ _ _. None) (λ _ _. None) (λ b. b || false) change flow (λ there. (refl, (refl, refl))) queue;
        }

finishing_passes : (state : Frontier) (named : ℕ) (fetched : Option Deferred) → (deferrals_at state named).fetched ≡ fetched → Sound state.machine → Settled state → Passes state (as_done named) (finishing state named fetched)
finishing_passes state named None is sound settled = done_passes state named (exchanges.done_with state.machine named) sound settled (ends_from state.machine named (slice_get state.machine.subqueues named) refl)
finishing_passes state named (Some d) is sound settled = let found = in_range state named d settled is in finish_again_passes state named d found.0 found.1 is settled

-- ---- `later`

abbrev as_later : ℕ → Result Request RequestError
as_later named = Ok (Later named)

-- the URL that is put back comes after all URLs that were accepted
pushed_fine : (queue : Subqueue) (next : Subqueue) (deferrals : Deferrals) (url : List ℕ) (sender n : ℕ) → n ≡ length queue.accepted → next.accepted ≡ queue.accepted → Fine (Some queue) deferrals → Fine (Some next) (waits_again deferrals (record { url = url; sender = sender; after = n }))
pushed_fine queue next deferrals url sender n is same fine = grind (arith, within_push)

pub fetches_busy : (queue : Subqueue) (url : List ℕ) → fetch_of queue ≡ Some url → queue.busy ≡ true
fetches_busy queue url fetched = grind arith

defer_passes : (state : Frontier) (named : ℕ) (url : List ℕ) (found : Subqueue) → queue_at state named ≡ Some found → fetch_of found ≡ Some url → Sound state.machine → Settled state
    → Passes state (as_later named) (by_machine (record (put_back state named url (suc state.senders)) { senders = suc state.senders }) (handing state.machine named (suc state.senders)))
defer_passes state named url found at fetched sound settled =
    let sender = suc state.senders in
    let deferrals = deferrals_at state named in
    let busy = fetches_busy found url fetched in
    let fine : Fine (Some found) deferrals = subst (λ (o : Option Subqueue). Fine o deferrals) at (settled.fine named) in
    let none = idle_deferrals found deferrals fine busy in
    let machine = (handing state.machine named sender).state in
    let is : machine.subqueues ≡ slice_set state.machine.subqueues named (after_finishing found) =
    ap (λ (o : Option Subqueue). (done_with state.machine named o).state.subqueues) at
    ∙ ap (λ b. (if b then counted (with_subqueue state.machine named (after_finishing found)) else refused state.machine why.Nothing).state.subqueues) busy in
    let n = accepted_at (queue_at state named) in
    let n_is : n ≡ length found.accepted = ap accepted_at at in
    let after_it = waits_again deferrals (record { url = url; sender = sender; after = n }) in
    let new : Frontier = record { machine = machine; deferrals = slice_set state.deferrals named after_it; senders = sender; seen = state.seen } in
    let change = change_both state machine named sender found (after_finishing found) after_it settled at is in
    let there = flow_defers found url sender deferrals (sound.queues named found at) fine fetched none in
    let placed = subst (λ (k : ℕ). Flow (Some found) deferrals (busy_at (Some found) deferrals.fetched) None true (Some (after_finishing found)) (waits_again deferrals (record { url = url; sender = sender; after = k }))) (sym n_is) there in
    let flow = subst (λ (o : Option Subqueue). Flow o deferrals (busy_at o deferrals.fetched) None true (Some (after_finishing found)) after_it) (sym at) placed in
    record {
      settled = settled_after state new named (Some (after_finishing found)) after_it settled change (pushed_fine found (after_finishing found) deferrals url sender n n_is refl fine);
      flow = λ queue. flow_after state new named (Some (after_finishing found)) after_it (λ there b. if b then busy_of state there else None) (λ _ _. None) (λ b. b) change flow (λ there. (refl, (refl, refl))) queue;
    }

taken_passes : (state : Frontier) (named : ℕ) (found : Option (Option (List ℕ))) → in_fetch state.machine named ≡ found → Sound state.machine → Settled state → Passes state (as_later named) (deferring_taken state named found)
taken_passes state named None is sound settled = passes_still state (as_later named) (says.Refused why.NoSuch) settled (λ queue busy. (refl, (refl, refl)))
taken_passes state named (Some None) is sound settled = passes_still state (as_later named) (says.Refused why.Nothing) settled (λ queue busy. (refl, (refl, refl)))
taken_passes state named (Some (Some url)) is sound settled =
    let sender = suc state.senders in
    let here = there fetch_of (queue_at state named) (Some url) is in
    either_way (Passes state (as_later named)) (can_hand_over state.machine named sender) (by_machine (record (put_back state named url sender) { senders = sender }) (handing state.machine named sender)) (replies (says.Refused why.Nothing) state)
    (defer_passes state named url here.0 here.1 here.2 sound settled)
    (passes_still state (as_later named) (says.Refused why.Nothing) settled (λ queue busy. (refl, (refl, refl))))

defer_again_passes : (state : Frontier) (named : ℕ) (u : Deferred) (found : Subqueue) → queue_at state named ≡ Some found → (deferrals_at state named).fetched ≡ Some u → Sound state.machine → Settled state → Passes state (as_later named) (deferring state named (Some u))
defer_again_passes state named u found at fetched sound settled =
    let deferrals = deferrals_at state named in
    let fine : Fine (Some found) deferrals = subst (λ (o : Option Subqueue). Fine o deferrals) at (settled.fine named) in
    let n = accepted_at (queue_at state named) in
    let n_is : n ≡ length found.accepted = ap accepted_at at in
    let after_it = waits_again deferrals (record { url = u.url; sender = u.sender; after = n }) in
    let new : Frontier = with_deferrals state named after_it in
    let change = change_deferrals state named found after_it settled at in
    let there = flow_defers_again found u deferrals (sound.queues named found at) fine fetched in
    let placed = subst (λ (k : ℕ). Flow (Some found) deferrals (busy_at (Some found) deferrals.fetched) None true (Some found) (waits_again deferrals (record { url = u.url; sender = u.sender; after = k }))) (sym n_is) there in
    let flow = subst (λ (o : Option Subqueue). Flow o deferrals (busy_at o deferrals.fetched) None true (Some found) after_it) (sym at) placed in
    record {
      settled = settled_after state new named (Some found) after_it settled change (pushed_fine found found deferrals u.url u.sender n n_is refl fine);
      flow = λ queue. flow_after state new named (Some found) after_it (λ there b. if b then busy_of state there else None) (λ _ _. None) (λ b. b) change flow (λ there. (refl, (refl, refl))) queue;
    }

deferring_passes : (state : Frontier) (named : ℕ) (fetched : Option Deferred) → (deferrals_at state named).fetched ≡ fetched → Sound state.machine → Settled state → Passes state (as_later named) (deferring state named fetched)
deferring_passes state named None is sound settled = taken_passes state named (in_fetch state.machine named) refl sound settled
deferring_passes state named (Some u) is sound settled = let found = in_range state named u settled is in defer_again_passes state named u found.0 found.1 is sound settled

-- ---- what a line asks

again_passes : (state : Frontier) (named : ℕ) (fetched : Option Deferred) → Settled state → Passes state (Ok (Again named)) (taking_again state named fetched)
again_passes state named fetched settled = grind (arith, common_steps, passes_still)

request_passes : (state : Frontier) (request : Request) → Sound state.machine → Settled state → Passes state (Ok request) (exchange state request)
request_passes state (Offer url named) sound settled = noted_passes state (as_offer url named) named (by_machine state (offering state.machine url named)) (offer_passes state url named (offering state.machine url named) sound settled (offers state.machine url named))
request_passes state (Next named) sound settled = next_passes state named (deferrals_at state named).fetched refl settled
request_passes state (Again named) sound settled = again_passes state named (deferrals_at state named).fetched settled
request_passes state (Later named) sound settled = deferring_passes state named (deferrals_at state named).fetched refl sound settled
request_passes state (Done named) sound settled = finishing_passes state named (deferrals_at state named).fetched refl sound settled
request_passes state (Seen named count) sound settled = record { settled = record { shape = settled.shape; fine = settled.fine }; flow = λ queue. flow_still (queue_at state queue) (deferrals_at state queue) }
request_passes state (Stats named) sound settled = record { settled = settled; flow = λ queue. flow_still (queue_at state queue) (deferrals_at state queue) }
request_passes state EndSeeds sound settled = passes_gate state (Ok EndSeeds) (seeds_ended state.machine) settled refl (λ queue busy. (refl, (refl, refl)))

pub answered_passes : (state : Frontier) (r : Result Request RequestError) → Sound state.machine → Settled state → Passes state r (answered state r)
answered_passes state (Ok request) sound settled = request_passes state request sound settled
answered_passes state (Err why) sound settled = record {
  settled = settled;
  flow = λ queue. flow_still (queue_at state queue) (deferrals_at state queue);
}
