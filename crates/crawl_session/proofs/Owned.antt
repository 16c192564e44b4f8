-- A URL that was put back has its sender's unit until it is done.
use Rattle.crawl_session.proofs.Prelude.{common_steps, ◌≡◌, ℕ, zero, suc, ◌+◌, ◌≤◌, Bool, true, false, cond, ◌&&◌, ◌||◌, if◌then◌else◌, nat_eq, List, ◌∷◌, replicate, slice_get, slice_set, Option, Some, None, Result, Ok, Err, refl, sym, ap, subst, ◌∙◌, arith, eqb-true, ne_eqb, nat_tests, sum_by, nat_cmp, is_at, nat_cmp_total, sum_by-cons, sum_by-set, sum_by_push, slice_get_within, Reply, fetch_of, in_fetch, one_if, GateTurn, gave_back, holds, let_go, turned_away, can_hand_over, handed_over, has_room, is_fetching, lets_in, holds_after, State, count_of, unfinished_in, turn, with_subqueue, Subqueue, after_finishing, unfinished, there, holds_less, sum_at, eqb_same, cond_both, list_any-insert_key, Sound, gate_effect, Deferred, Request, Offer, Next, Again, Later, Done, EndSeeds, Seen, Stats, RequestError, Exchange, Outcome, accepted_at, admitting, by_machine, client, deferring, deferring_taken, ends, exchange, finishing, handing, is_count, is_due, is_entered, offering, put_back, replies, retaking, seeds_ended, taking, taking_again, taking_next, Deferrals, Frontier, deferrals_at, no_deferrals, start, waits_again, with_deferrals, answered}
use Rattle.crawl_core.specs.declared.event.Event.TheVariants as event
use Rattle.crawl_core.specs.declared.reply.Reply.TheVariants as says
use Rattle.crawl_core.specs.declared.reply.Refusal.TheVariants as why
use Rattle.crawl_core.proofs.GateHistory as gate_history
use Rattle.crawl_core.proofs.Handing.{handed_is, is_free}
use Rattle.crawl_session.specs.Exchanges as exchanges
use Rattle.crawl_session.proofs.Choices.{either_way}
use Rattle.crawl_session.proofs.Flows.{fetches_busy, in_range}
use Rattle.crawl_session.specs.Seen.{add_seen}
use Rattle.crawl_session.proofs.Noted.{with_seen}
use Rattle.crawl_session.proofs.Queues.{Settled, queue_at}

-- the number of URLs that were put back and have this sender, in a queue and in all queues
abbrev pub has_sender : ℕ → Deferred → ℕ
has_sender sender d = cond (nat_eq d.sender sender) 1 0

abbrev pub fetched_units : ℕ → Option Deferred → ℕ
fetched_units sender None = 0
fetched_units sender (Some d) = has_sender sender d

abbrev pub units_in : ℕ → Deferrals → ℕ
units_in sender deferrals = sum_by (has_sender sender) deferrals.waiting + fetched_units sender deferrals.fetched

abbrev pub units_of : ℕ → Frontier → ℕ
units_of sender state = sum_by (units_in sender) state.deferrals

-- no URL that was put back has the client as sender; others have at most one each, and only with a unit; later senders hold none
pub record Owned (state : Frontier) : Type 0 where
  pub mine : units_of client state ≡ 0
  pub held : (sender : ℕ) → units_of sender state ≤ one_if (holds state.machine.gate sender)
  pub fresh : (n : ℕ) → state.senders ≤ n → holds state.machine.gate (suc n) ≡ false

-- ---- the machine without the session

-- the units of senders other than the client stay as they are
abbrev Others : State → State → Type 0
Others old new = (n : ℕ) → holds new.gate (suc n) ≡ holds old.gate (suc n)

by_entry : (n : ℕ) (held : Bool) (reply : Reply) → holds_after (suc n) held (event.Enter client) reply ≡ held
by_entry n held reply = grind (arith, nat_tests)

by_return : (n : ℕ) (held : Bool) (reply : Reply) → holds_after (suc n) held (event.Back client) reply ≡ held
by_return n held reply = grind (arith, nat_tests)

by_admission : (n : ℕ) (held : Bool) (url : List ℕ) (named : ℕ) (reply : Reply) → holds_after (suc n) held (event.Admit client url named) reply ≡ held
by_admission n held url named reply = grind (arith, nat_tests)

enter_others : (state : State) → Sound state → Others state (turn state (event.Enter client)).state
enter_others state sound n = (gate_history.held state sound (event.Enter client)).holders (suc n) ∙ by_entry n (holds state.gate (suc n)) (turn state (event.Enter client)).reply

back_others : (state : State) → Sound state → Others state (turn state (event.Back client)).state
back_others state sound n = (gate_history.held state sound (event.Back client)).holders (suc n) ∙ by_return n (holds state.gate (suc n)) (turn state (event.Back client)).reply

admit_others : (state : State) (url : List ℕ) (named : ℕ) → Sound state → Others state (turn state (event.Admit client url named)).state
admit_others state url named sound n = (gate_history.held state sound (event.Admit client url named)).holders (suc n) ∙ by_admission n (holds state.gate (suc n)) url named (turn state (event.Admit client url named)).reply

others_both : (a b c : State) → Others a b → Others b c → Others a c
others_both a b c first second n = second n ∙ first n

admitting_others : (state : State) (url : List ℕ) (named : ℕ) → Sound state → Others state (admitting state url named).state
admitting_others state url named sound = grind (arith, gate_effect, admit_others, either_way, others_both, back_others)

offering_others : (state : State) (url : List ℕ) (named : ℕ) → Sound state → Others state (offering state url named).state
offering_others state url named sound =
    let looked = turn state (event.Look client) in
    let looking = gate_effect state sound (event.Look client) in
    let entered = turn looked.state (event.Enter client) in
    let entering_it = gate_effect looked.state looking.sound (event.Enter client) in
    let first = enter_others looked.state looking.sound in
    either_way (λ (x : Exchange). Others state x.state) (is_entered entered.reply) (admitting entered.state url named) (ends entered.reply entered.state)
    (λ n. admitting_others entered.state url named entering_it.sound n ∙ first n) first

taking_others : (state : State) (named : ℕ) → Sound state → Others state (taking state named).state
taking_others state named sound = grind arith

owned_machine : (state : Frontier) (new : State) → Others state.machine new → Owned state → Owned (record state { machine = new })
owned_machine state new others owned = record { mine = owned.mine; held = by_sender; fresh = λ n past. others n ∙ owned.fresh n past }
  where
    by_sender : (sender : ℕ) → units_of sender state ≤ one_if (holds new.gate sender)
    by_sender zero = let none = owned.mine in omega (arith, none)
    by_sender (suc n) = subst (λ b. units_of (suc n) state ≤ one_if b) (sym (others n)) (owned.held (suc n))

-- the numbers of `seen` are no units
owned_seen : (state : Frontier) (seen : List ℕ) → Owned state → Owned (with_seen state seen)
owned_seen state seen owned = record { mine = owned.mine; held = owned.held; fresh = owned.fresh }

-- ---- one queue's deferrals

-- the units after a change of one queue
units_after : (state : Frontier) (named : ℕ) (deferrals : Deferrals) (found : Subqueue) → Settled state → queue_at state named ≡ Some found → (sender : ℕ)
    → sum_by (units_in sender) (slice_set state.deferrals named deferrals) + units_in sender (deferrals_at state named) ≡ units_of sender state + units_in sender deferrals
units_after state named deferrals found settled at sender = grind (arith, slice_get_within, sum_by-set)

-- a change of one queue that keeps each sender's units
owned_same : (state : Frontier) (named : ℕ) (deferrals : Deferrals) (found : Subqueue) → Settled state → queue_at state named ≡ Some found → ((sender : ℕ) → units_in sender deferrals ≡ units_in sender (deferrals_at state named)) → Owned state → Owned (with_deferrals state named deferrals)
owned_same state named deferrals found settled at same owned = grind (arith, units_after)

-- ---- requests

retake_units : (sender : ℕ) (first : Deferred) (more : List Deferred) (deferrals : Deferrals) → deferrals.waiting ≡ first ∷ more → deferrals.fetched ≡ None → units_in sender (record { waiting = more; fetched = Some first }) ≡ units_in sender deferrals
retake_units sender first more deferrals waits none = grind (arith, common_steps, sum_by-cons)

retake_owned : (state : Frontier) (named : ℕ) (queue : Option Subqueue) (waiting : List Deferred) → queue_at state named ≡ queue → (deferrals_at state named).waiting ≡ waiting → Settled state → (deferrals_at state named).fetched ≡ None → is_due queue waiting ≡ true → Owned state → Owned (retaking state named waiting).state
retake_owned state named queue waiting at waits settled none due owned = grind (arith, common_steps, owned_same, retake_units)

next_owned : (state : Frontier) (named : ℕ) (fetched : Option Deferred) → (deferrals_at state named).fetched ≡ fetched → Sound state.machine → Settled state → Owned state → Owned (taking_next state named (deferrals_at state named).waiting fetched).state
next_owned state named (Some d) is sound settled owned = owned
next_owned state named None is sound settled owned =
    cond_both (λ (x : Outcome). Owned x.state) (is_due (queue_at state named) (deferrals_at state named).waiting) (retaking state named (deferrals_at state named).waiting) (by_machine state (taking state.machine named))
    (λ due. retake_owned state named (queue_at state named) (deferrals_at state named).waiting refl refl settled is due owned)
    (λ _. owned_machine state (taking state.machine named).state (taking_others state.machine named sound) owned)

-- a URL that was put back is done
finish_units : (sender : ℕ) (d : Deferred) (deferrals : Deferrals) → deferrals.fetched ≡ Some d → units_in sender (record { waiting = deferrals.waiting; fetched = None }) + has_sender sender d ≡ units_in sender deferrals
finish_units sender d deferrals is = grind arith

less_held : (b h : Bool) (n m : ℕ) → n ≡ m + cond b 1 0 → n ≤ one_if h → m ≤ one_if (if b then false else h)
less_held b h n m is few = grind arith

given_owned : (state : Frontier) (named : ℕ) (d : Deferred) (found : Subqueue) → queue_at state named ≡ Some found → (deferrals_at state named).fetched ≡ Some d → Sound state.machine → Settled state → Owned state
    → Owned (with_deferrals (record state { machine = record state.machine { gate = let_go state.machine.gate d.sender } }) named (record { waiting = (deferrals_at state named).waiting; fetched = None }))
given_owned state named d found at is sound settled owned = grind (arith, units_after, finish_units, holds_less, less_held)

finish_again_owned : (state : Frontier) (named : ℕ) (d : Deferred) (found : Subqueue) → queue_at state named ≡ Some found → (deferrals_at state named).fetched ≡ Some d → Sound state.machine → Settled state → Owned state → Owned (finishing state named (Some d)).state
finish_again_owned state named d found at is sound settled owned =
    let gate = state.machine.gate in
    let messages = unfinished_in state.machine in
    either_way (λ (t : GateTurn). Owned (if is_count t.reply then with_deferrals (record state { machine = record state.machine { gate = t.gate } }) named (record { waiting = (deferrals_at state named).waiting; fetched = None }) else record state { machine = record state.machine { gate = t.gate } }))
    (holds gate d.sender) (gave_back (let_go gate d.sender) messages) (turned_away gate why.Nothing)
    (given_owned state named d found at is sound settled owned) owned

finishing_owned : (state : Frontier) (named : ℕ) (fetched : Option Deferred) → (deferrals_at state named).fetched ≡ fetched → Sound state.machine → Settled state → Owned state → Owned (finishing state named fetched).state
finishing_owned state named None is sound settled owned = owned_machine state (exchanges.done_with state.machine named).state (λ n. (gate_history.held state.machine sound (event.Done named)).holders (suc n)) owned
finishing_owned state named (Some d) is sound settled owned = let found = in_range state named d settled is in finish_again_owned state named d found.0 found.1 is sound settled owned

-- a URL that is being fetched waits again
push_units : (sender : ℕ) (d : Deferred) (deferrals : Deferrals) → units_in sender (waits_again deferrals d) ≡ sum_by (has_sender sender) deferrals.waiting + has_sender sender d
push_units sender d deferrals = let sum = sum_by_push (has_sender sender) deferrals.waiting d in omega (arith, sum)

defer_again_units : (sender n : ℕ) (u : Deferred) (deferrals : Deferrals) → deferrals.fetched ≡ Some u → units_in sender (waits_again deferrals (record { url = u.url; sender = u.sender; after = n })) ≡ units_in sender deferrals
defer_again_units sender n u deferrals is = grind (arith, push_units)

and_parts : (a b c : Bool) → (a && (b && c)) ≡ true → (a ≡ true) × ((b ≡ true) × (c ≡ true))
and_parts a b c e = grind arith

is_at_number : (s sender : ℕ) → is_at (nat_cmp s) sender ≡ nat_eq sender s
is_at_number s sender = grind (arith, nat_tests)

more_held : (b h : Bool) (n m : ℕ) → m ≡ n + cond b 1 0 → n ≤ one_if h → (b ≡ true → h ≡ false) → m ≤ one_if (b || h)
more_held b h n m is few free = grind arith

defer_owned : (state : Frontier) (named : ℕ) (url : List ℕ) (found : Subqueue) → queue_at state named ≡ Some found → fetch_of found ≡ Some url → (deferrals_at state named).fetched ≡ None → Sound state.machine → Settled state → Owned state → can_hand_over state.machine named (suc state.senders) ≡ true
    → Owned (by_machine (record (put_back state named url (suc state.senders)) { senders = suc state.senders }) (handing state.machine named (suc state.senders))).state
defer_owned state named url found at fetched none sound settled owned can =
    let s = suc state.senders in
    let machine = state.machine in
    let flags = and_parts (is_fetching (slice_get machine.subqueues named)) (lets_in machine.gate s) (has_room machine) can in
    let busy = fetches_busy found url fetched in
    let inv = sound.queues named found at in
    let one : one_if found.busy ≡ 1 = ap one_if busy in
    let sum = sum_at unfinished machine.subqueues named found (after_finishing found) at in
    let fewer : count_of (with_subqueue machine named (after_finishing found)) + 1 ≡ count_of machine = omega (arith, sum, one, inv.begun, inv.within) in
    let is = handed_is machine named s found at busy flags.1.0 fewer flags.1.1 in
    let free : holds machine.gate s ≡ false = is_free machine.gate s flags.1.0 in
    let old = deferrals_at state named in
    let d : Deferred = record { url = url; sender = s; after = accepted_at (queue_at state named) } in
    let new = waits_again old d in
    let sums : (sender : ℕ) → sum_by (units_in sender) (slice_set state.deferrals named new) ≡ units_of sender state + cond (nat_eq s sender) 1 0 =
    λ sender. (
    let total = units_after state named new found settled at sender in
    let push = push_units sender d old in
    let no : fetched_units sender old.fetched ≡ 0 = ap (fetched_units sender) none in
    omega (arith, total, push, no)) in
    let holds_now : (sender : ℕ) → holds (handed_over machine named s).gate sender ≡ (nat_eq s sender || holds machine.gate sender) =
    λ sender. ap (λ (m : State). holds m.gate sender) is ∙ list_any-insert_key nat_cmp_total sender s machine.gate.holders ∙ ap (λ b. b || holds machine.gate sender) (is_at_number sender s) in
    record {
      mine = let total = sums client in let none_mine = owned.mine in let apart : cond (nat_eq (suc state.senders) client) 1 0 ≡ 0 = ap {B = ℕ} (λ b. cond b 1 0) (suc_apart state.senders) in omega (arith, total, none_mine, apart);
      held = λ sender. subst (λ b. sum_by (units_in sender) (slice_set state.deferrals named new) ≤ one_if b) (sym (holds_now sender))
          (more_held (nat_eq s sender) (holds machine.gate sender) (units_of sender state) _ (sums sender) (owned.held sender) (λ same. ap (holds machine.gate) (sym (eqb-true s sender same)) ∙ free));
      fresh = λ n past. holds_now (suc n)
          ∙ ap (λ b. b || holds machine.gate (suc n)) (ne_eqb s (suc n) (λ (same : s ≡ suc n). omega (arith, past, same)))
          ∙ owned.fresh n (omega (arith, past));
    }
  where
    suc_apart : (n : ℕ) → nat_eq (suc n) client ≡ false
    suc_apart n = grind (arith, nat_tests)

taken_owned : (state : Frontier) (named : ℕ) (found : Option (Option (List ℕ))) → in_fetch state.machine named ≡ found → (deferrals_at state named).fetched ≡ None → Sound state.machine → Settled state → Owned state → Owned (deferring_taken state named found).state
taken_owned state named None is none sound settled owned = owned
taken_owned state named (Some None) is none sound settled owned = owned
taken_owned state named (Some (Some url)) is none sound settled owned =
    let sender = suc state.senders in
    let here = there fetch_of (queue_at state named) (Some url) is in
    cond_both (λ (x : Outcome). Owned x.state) (can_hand_over state.machine named sender) (by_machine (record (put_back state named url sender) { senders = sender }) (handing state.machine named sender)) (replies (says.Refused why.Nothing) state)
    (λ can. defer_owned state named url here.0 here.1 here.2 none sound settled owned can) (λ _. owned)

deferring_owned : (state : Frontier) (named : ℕ) (fetched : Option Deferred) → (deferrals_at state named).fetched ≡ fetched → Sound state.machine → Settled state → Owned state → Owned (deferring state named fetched).state
deferring_owned state named None is sound settled owned = taken_owned state named (in_fetch state.machine named) refl is sound settled owned
deferring_owned state named (Some u) is sound settled owned =
    let found = in_range state named u settled is in
    let n = accepted_at (queue_at state named) in
    owned_same state named (waits_again (deferrals_at state named) (record { url = u.url; sender = u.sender; after = n })) found.0 settled found.1 (λ sender. defer_again_units sender n u (deferrals_at state named) is) owned

again_owned : (state : Frontier) (named : ℕ) (fetched : Option Deferred) → Owned state → Owned (taking_again state named fetched).state
again_owned state named fetched owned = grind arith

request_owned : (state : Frontier) (request : Request) → Sound state.machine → Settled state → Owned state → Owned (exchange state request).state
request_owned state (Offer url named) sound settled owned =
    owned_seen (by_machine state (offering state.machine url named)).state (exchange state (Offer url named)).state.seen (owned_machine state (offering state.machine url named).state (offering_others state.machine url named sound) owned)
request_owned state (Next named) sound settled owned = next_owned state named (deferrals_at state named).fetched refl sound settled owned
request_owned state (Again named) sound settled owned = again_owned state named (deferrals_at state named).fetched owned
request_owned state (Later named) sound settled owned = deferring_owned state named (deferrals_at state named).fetched refl sound settled owned
request_owned state (Done named) sound settled owned = finishing_owned state named (deferrals_at state named).fetched refl sound settled owned
request_owned state (Seen named count) sound settled owned = owned_seen state (add_seen named count state.seen) owned
request_owned state (Stats named) sound settled owned = owned
request_owned state EndSeeds sound settled owned = owned_machine state (seeds_ended state.machine).state (λ n. (gate_history.held state.machine sound event.EndSeeds).holders (suc n)) owned

pub answered_owned : (state : Frontier) (r : Result Request RequestError) → Sound state.machine → Settled state → Owned state → Owned (answered state r).state
answered_owned state (Ok request) sound settled owned = request_owned state request sound settled owned
answered_owned state (Err why) sound settled owned = owned

-- a URL that is fetched and was put back before has its sender's unit
pub fetched_holds : (state : Frontier) (named : ℕ) (d : Deferred) → Settled state → Owned state → (deferrals_at state named).fetched ≡ Some d → holds state.machine.gate d.sender ≡ true
fetched_holds state named d settled owned is = grind (arith, common_steps, in_range, units_after, eqb_same)

-- ---- a new session, and one in which no unit is held

none_new : (workers sender : ℕ) → sum_by (units_in sender) (replicate workers no_deferrals) ≡ 0
none_new zero sender = refl
none_new (suc workers) sender = grind (arith, sum_by-cons, none_new workers sender)

pub starts_owned : (workers max : ℕ) → Owned (start workers max)
starts_owned workers max = grind (arith, none_new)
