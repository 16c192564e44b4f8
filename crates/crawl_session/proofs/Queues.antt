-- What each request does to each queue: a URL joins its end, one is taken, or a fetch ends.
use Rattle.crawl_session.proofs.Prelude.{◌≡◌, ℕ, Bool, true, false, ◌||◌, nat_eq, List, length, slice_get, slice_set, Option, Some, None, Result, refl, sym, ap, subst, ◌∙◌, arith, eqb-false, get_or-set_same, get_or-set_other, slice_get_within, Reply, State, Subqueue, get_set_same, get_set_other, length-slice_set, Answer, Replied, Request, RequestError, LineAnswer, finishes, joins, puts_back, takes, Exchange, Outcome, by_machine, replies, Deferrals, Frontier, deferrals_at, with_deferrals}
use Rattle.crawl_session.proofs.Joined.{Fine, Flow, busy_at, flow_still}

-- ---- all queues

abbrev pub queue_at : Frontier → ℕ → Option Subqueue
queue_at state queue = slice_get state.machine.subqueues queue

-- the URL that the queue is busy with
abbrev pub busy_of : Frontier → ℕ → Option (List ℕ)
busy_of state queue = busy_at (queue_at state queue) (deferrals_at state queue).fetched

-- each queue of the machine has its deferrals, and these are fine
pub record Settled (state : Frontier) : Type 0 where
  pub shape : length state.deferrals ≡ length state.machine.subqueues
  pub fine : (queue : ℕ) → Fine (queue_at state queue) (deferrals_at state queue)

abbrev pub as_answered : Result Request RequestError → Answer → LineAnswer
as_answered r answer = record { request = r; answer = answer }

-- the outcome of a request: what happens in each queue is what the answer says
pub record Passes (state : Frontier) (r : Result Request RequestError) (x : Outcome) : Type 0 where
  pub settled : Settled x.state
  pub flow : (queue : ℕ) → Flow (queue_at state queue) (deferrals_at state queue) (joins queue (busy_of state queue) (as_answered r x.answer)) (takes queue r x.answer) (finishes queue r x.answer || puts_back queue r x.answer) (queue_at x.state queue) (deferrals_at x.state queue)

-- nothing happens in any queue
abbrev pub Quietly : Result Request RequestError → Answer → Type 0
Quietly r answer = (queue : ℕ) (busy : Option (List ℕ)) → (joins queue busy (as_answered r answer) ≡ None) × ((takes queue r answer ≡ None) × ((finishes queue r answer || puts_back queue r answer) ≡ false))

still_as : (queue : Option Subqueue) (deferrals : Deferrals) (j t : Option (List ℕ)) (e : Bool) → j ≡ None → t ≡ None → e ≡ false → Flow queue deferrals j t e queue deferrals
still_as queue deferrals j t e no_join no_take no_end = grind (arith, flow_still)

pub passes_still : (state : Frontier) (r : Result Request RequestError) (reply : Reply) → Settled state → Quietly r (Replied reply) → Passes state r (replies reply state)
passes_still state r reply settled quiet = record {
  settled = settled;
  flow = λ queue. let said = quiet queue (busy_of state queue) in still_as (queue_at state queue) (deferrals_at state queue) _ _ _ said.0 said.1.0 said.1.1;
}

-- the machine's queues stay as they are
pub passes_gate : (state : Frontier) (r : Result Request RequestError) (x : Exchange) → Settled state → x.state.subqueues ≡ state.machine.subqueues → Quietly r x.answer → Passes state r (by_machine state x)
passes_gate state r x settled same quiet =
    let at : (queue : ℕ) → slice_get x.state.subqueues queue ≡ queue_at state queue = λ queue. ap (λ (l : List Subqueue). slice_get l queue) same in
    record {
      settled = record {
        shape = settled.shape ∙ ap length (sym same);
        fine = λ queue. subst (λ (o : Option Subqueue). Fine o (deferrals_at state queue)) (sym (at queue)) (settled.fine queue);
      };
      flow = λ queue.
          let said = quiet queue (busy_of state queue) in
          subst (λ (o : Option Subqueue). Flow (queue_at state queue) (deferrals_at state queue) (joins queue (busy_of state queue) (as_answered r x.answer)) (takes queue r x.answer) (finishes queue r x.answer || puts_back queue r x.answer) o (deferrals_at state queue)) (sym (at queue))
          (still_as (queue_at state queue) (deferrals_at state queue) _ _ _ said.0 said.1.0 said.1.1);
    }

-- ---- one queue

-- what holds of the named queue and of every other queue holds of each queue
pub one_queue : (named queue : ℕ) (P : Bool → ℕ → Type 0) → P true named → (nat_eq named queue ≡ false → P false queue) → P (nat_eq named queue) queue
one_queue named queue P here other = grind arith

-- the change of one queue
pub record Change (state new : Frontier) (named : ℕ) (queue : Option Subqueue) (deferrals : Deferrals) : Type 0 where
  pub shape : length new.deferrals ≡ length new.machine.subqueues
  pub here : queue_at new named ≡ queue
  pub here_too : deferrals_at new named ≡ deferrals
  pub other : (there : ℕ) → nat_eq named there ≡ false → queue_at new there ≡ queue_at state there
  pub other_too : (there : ℕ) → nat_eq named there ≡ false → deferrals_at new there ≡ deferrals_at state there

pub settled_after : (state new : Frontier) (named : ℕ) (queue : Option Subqueue) (deferrals : Deferrals) → Settled state → Change state new named queue deferrals → Fine queue deferrals → Settled new
settled_after state new named queue deferrals settled change fine = grind arith

-- what happens in the named queue, and that nothing happens in the others
pub flow_after : (state new : Frontier) (named : ℕ) (queue : Option Subqueue) (deferrals : Deferrals) (j t : ℕ → Bool → Option (List ℕ)) (e : Bool → Bool) → Change state new named queue deferrals
    → Flow (queue_at state named) (deferrals_at state named) (j named true) (t named true) (e true) queue deferrals
    → ((there : ℕ) → (j there false ≡ None) × ((t there false ≡ None) × (e false ≡ false)))
    → (there : ℕ) → Flow (queue_at state there) (deferrals_at state there) (j there (nat_eq named there)) (t there (nat_eq named there)) (e (nat_eq named there)) (queue_at new there) (deferrals_at new there)
flow_after state new named queue deferrals j t e change flow quiet there =
    one_queue named there (λ b q. Flow (queue_at state q) (deferrals_at state q) (j q b) (t q b) (e b) (queue_at new q) (deferrals_at new q))
    (subst (λ (o : Option Subqueue). Flow (queue_at state named) (deferrals_at state named) (j named true) (t named true) (e true) o (deferrals_at new named)) (sym change.here)
    (subst (λ (d : Deferrals). Flow (queue_at state named) (deferrals_at state named) (j named true) (t named true) (e true) queue d) (sym change.here_too) flow))
    (λ apart.
    let said = quiet there in
    subst (λ (o : Option Subqueue). Flow (queue_at state there) (deferrals_at state there) (j there false) (t there false) (e false) o (deferrals_at new there)) (sym (change.other there apart))
    (subst (λ (d : Deferrals). Flow (queue_at state there) (deferrals_at state there) (j there false) (t there false) (e false) (queue_at state there) d) (sym (change.other_too there apart))
    (still_as (queue_at state there) (deferrals_at state there) (j there false) (t there false) (e false) said.0 said.1.0 said.1.1)))

-- one queue of the machine is replaced
pub change_queue : (state : Frontier) (gate_machine : State) (named : ℕ) (old new : Subqueue) → Settled state → queue_at state named ≡ Some old → gate_machine.subqueues ≡ slice_set state.machine.subqueues named new
    → Change state (record state { machine = gate_machine }) named (Some new) (deferrals_at state named)
change_queue state machine named old new settled at is = record {
  shape = settled.shape ∙ sym (ap length is ∙ length-slice_set state.machine.subqueues named new);
  here = ap (λ (l : List Subqueue). slice_get l named) is ∙ get_set_same state.machine.subqueues named old new at;
  here_too = refl;
  other = λ there apart. ap (λ (l : List Subqueue). slice_get l there) is ∙ get_set_other state.machine.subqueues named there new apart;
  other_too = λ there apart. refl;
}

pub change_deferrals : (state : Frontier) (named : ℕ) (queue : Subqueue) (deferrals : Deferrals) → Settled state → queue_at state named ≡ Some queue → Change state (with_deferrals state named deferrals) named (Some queue) deferrals
change_deferrals state named queue deferrals settled at = grind (arith, slice_get_within, length-slice_set, get_or-set_same, get_or-set_other, eqb-false)

-- both are replaced, and the number of senders too
pub change_both : (state : Frontier) (machine : State) (named senders : ℕ) (old new : Subqueue) (deferrals : Deferrals) → Settled state → queue_at state named ≡ Some old → machine.subqueues ≡ slice_set state.machine.subqueues named new
    → Change state (record { machine = machine; deferrals = slice_set state.deferrals named deferrals; senders = senders; seen = state.seen }) named (Some new) deferrals
change_both state machine named senders old new deferrals settled at is =
    let first = change_queue state machine named old new settled at is in
    let second = change_deferrals state named old deferrals settled at in
    record {
      shape = length-slice_set state.deferrals named deferrals ∙ first.shape;
      here = first.here;
      here_too = second.here_too;
      other = first.other;
      other_too = second.other_too;
    }
