-- A busy queue can put its URL back.
use Rattle.crawl_session.proofs.Prelude.{◌≡◌, ℕ, suc, ◌≤◌, Bool, true, false, not, ◌&&◌, is_some, List, Option, Some, None, Ok, refl, sym, ap, ◌∙◌, arith, option_map, fetch_of, one_if, can_hand_over, HasRoom, count_of, Subqueue, gate_invariant, eqb_same, start_sound, Sound, none_unfinished, Deferred, Later, line_answers, busy_in, puts_back, Outcome, deferring, deferring_taken, Frontier, deferrals_at, start, request_for, answered, history_of, line_exchange, state_after, Settings}
use Rattle.crawl_session.proofs.Conserved.{settled_after_lines, starts_free, starts_settled}
use Rattle.crawl_session.proofs.Emptied.{owned_after_lines}
use Rattle.crawl_session.proofs.Flows.{fetches_busy}
use Rattle.crawl_session.proofs.Joined.{busy_at}
use Rattle.crawl_session.proofs.Owned.{Owned, starts_owned}
use Rattle.crawl_session.proofs.Queues.{queue_at}
use Rattle.crawl_session.proofs.Returns.{busy_is}
use Rattle.crawl_session.proofs.Runs.{session_runs}

-- a queue that fetches a URL, in a state whose gate has room for what is out, can hand its unit to the next sender
all_set : (a b c : Bool) → a ≡ true → b ≡ true → c ≡ true → (a && (b && c)) ≡ true
all_set a b c first second third = grind arith

both_unset : (a b : Bool) → a ≡ false → b ≡ false → (not a && not b) ≡ true
both_unset a b first second = grind arith

stays_open : (state : Frontier) (named : ℕ) (found : Subqueue) → Sound state.machine → queue_at state named ≡ Some found → found.busy ≡ true → state.machine.gate.closed ≡ false
stays_open state named found sound at busy = by_gate state.machine.gate.closed refl
  where
    by_gate : (b : Bool) → state.machine.gate.closed ≡ b → b ≡ false
    by_gate false is = refl
    by_gate true is =
        let inv = sound.queues named found at in
        let left = none_unfinished state.machine named found at (sound.empty is) in
        let one : one_if found.busy ≡ 1 = ap one_if busy in
        absurd (omega (arith, left, one, inv.begun, inv.within))

can_defer : (state : Frontier) (named : ℕ) (url : List ℕ) (found : Subqueue) → Sound state.machine → Owned state → count_of state.machine ≤ state.machine.gate.max → queue_at state named ≡ Some found → fetch_of found ≡ Some url → can_hand_over state.machine named (suc state.senders) ≡ true
can_defer state named url found sound owned within at fetched = grind (arith, fetches_busy, all_set, both_unset, stays_open)

-- ---- what `later` is answered

abbrev PutsBack : ℕ → Outcome → Bool → Type 0
PutsBack named x busy = puts_back named (Ok (Later named)) x.answer ≡ busy

taken_back : (state : Frontier) (named : ℕ) (queue : Option Subqueue) → queue_at state named ≡ queue → Sound state.machine → Owned state → count_of state.machine ≤ state.machine.gate.max → PutsBack named (deferring_taken state named (option_map fetch_of queue)) (is_some (busy_at queue None))
taken_back state named queue at sound owned within = grind (arith, can_defer, eqb_same)

deferring_back : (state : Frontier) (named : ℕ) (fetched : Option Deferred) → Sound state.machine → Owned state → count_of state.machine ≤ state.machine.gate.max → PutsBack named (deferring state named fetched) (is_some (busy_at (queue_at state named) fetched))
deferring_back state named fetched sound owned within = grind (arith, taken_back, queue_at, eqb_same)

pub later_if_busy : (settings : Settings) (max : ℕ) (front : List (List ℕ)) (line : List ℕ) (queue : ℕ) → HasRoom max → request_for settings line ≡ Ok (Later queue)
    → puts_back queue (Ok (Later queue)) (line_exchange settings (state_after settings (start settings.workers max) front) line).answer ≡ is_some (busy_in queue (line_answers settings (start settings.workers max) front))
later_if_busy settings max front line queue room asks =
    let begun = start settings.workers max in
    let state = state_after settings begun front in
    let fresh = start_sound settings.workers max in
    let settled = starts_settled settings.workers max in
    let both = settled_after_lines settings begun front fresh settled in
    let owned = owned_after_lines settings begun front fresh settled (starts_owned settings.workers max) in
    let within = (gate_invariant settings.workers max (history_of settings begun front) state.machine room (session_runs settings begun front)).within in
    ap (λ r. puts_back queue (Ok (Later queue)) (answered state r).answer) asks
    ∙ deferring_back state queue (deferrals_at state queue).fetched both.0 owned within
    ∙ ap is_some (sym (busy_is settings begun front queue None fresh settled (sym (starts_free settings.workers max queue))))
