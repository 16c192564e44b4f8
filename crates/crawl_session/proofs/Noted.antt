-- Nothing but `stats` depends on the numbers of `seen`, and only offers and `seen` change them.
use Rattle.crawl_session.proofs.Prelude.{◌≡◌, ℕ, suc, Bool, true, false, if◌then◌else◌, List, [], ◌∷◌, slice_get, Option, Some, None, Result, Ok, Err, refl, ap, in_fetch, can_hand_over, turn, Answer, Deferred, Request, Offer, Next, Again, Later, Done, EndSeeds, Seen, Stats, RequestError, Outcome, by_machine, deferring, deferring_taken, exchange, finishing, handing, is_count, is_due, put_back, replies, retaking, taking, taking_again, taking_next, Frontier, deferrals_at, with_deferrals, answered}
use Rattle.crawl_core.specs.declared.event.Event.TheVariants as event
use Rattle.crawl_core.specs.declared.reply.Reply.TheVariants as says
use Rattle.crawl_core.specs.declared.reply.Refusal.TheVariants as why
use Rattle.crawl_session.specs.Seen.{add_seen, seen_with}

-- the same state with other numbers
abbrev pub with_seen : Frontier → List ℕ → Frontier
with_seen state seen = record state { seen = seen }

-- the numbers after a request with this answer
abbrev pub seen_next : Result Request RequestError → Answer → List ℕ → List ℕ
seen_next (Ok (Offer url queue)) answer seen = seen_with queue answer seen
seen_next (Ok (Seen queue count)) answer seen = add_seen queue count seen
seen_next _ answer seen = seen

-- the first state is the second with other numbers
abbrev But : List ℕ → Frontier → Frontier → Type 0
But seen x y = x ≡ with_seen y seen

but_if : (b : Bool) (seen : List ℕ) (x y v w : Outcome) → But seen x.state v.state → But seen y.state w.state → But seen (if b then x else y).state (if b then v else w).state
but_if true seen x y v w first second = first
but_if false seen x y v w first second = second

state_if : (b : Bool) (seen : List ℕ) (x y v w : Frontier) → But seen x v → But seen y w → But seen (if b then x else y) (if b then v else w)
state_if true seen x y v w first second = first
state_if false seen x y v w first second = second

retaking_but : (state : Frontier) (seen : List ℕ) (named : ℕ) (waiting : List Deferred) → But seen (retaking (with_seen state seen) named waiting).state (retaking state named waiting).state
retaking_but state seen named [] = refl
retaking_but state seen named (first ∷ more) = refl

next_but : (state : Frontier) (seen : List ℕ) (named : ℕ) (waiting : List Deferred) (fetched : Option Deferred) → But seen (taking_next (with_seen state seen) named waiting fetched).state (taking_next state named waiting fetched).state
next_but state seen named waiting (Some url) = refl
next_but state seen named waiting None =
    but_if (is_due (slice_get state.machine.subqueues named) waiting) seen (retaking (with_seen state seen) named waiting) (by_machine (with_seen state seen) (taking state.machine named)) (retaking state named waiting) (by_machine state (taking state.machine named))
    (retaking_but state seen named waiting) refl

again_but : (state : Frontier) (seen : List ℕ) (named : ℕ) (fetched : Option Deferred) → But seen (taking_again (with_seen state seen) named fetched).state (taking_again state named fetched).state
again_but state seen named None = refl
again_but state seen named (Some url) = refl

finishing_but : (state : Frontier) (seen : List ℕ) (named : ℕ) (fetched : Option Deferred) → But seen (finishing (with_seen state seen) named fetched).state (finishing state named fetched).state
finishing_but state seen named None = refl
finishing_but state seen named (Some url) =
    let done = turn state.machine (event.Back url.sender) in
    let left : Frontier = record state { machine = done.state } in
    let freed : Frontier = with_deferrals left named (record { waiting = (deferrals_at state named).waiting; fetched = None }) in
    state_if (is_count done.reply) seen (with_seen freed seen) (with_seen left seen) freed left refl refl

taken_but : (state : Frontier) (seen : List ℕ) (named : ℕ) (found : Option (Option (List ℕ))) → But seen (deferring_taken (with_seen state seen) named found).state (deferring_taken state named found).state
taken_but state seen named None = refl
taken_but state seen named (Some None) = refl
taken_but state seen named (Some (Some url)) =
    let sender = suc state.senders in
    let hands : Frontier → Outcome = λ s. by_machine (record (put_back s named url sender) { senders = sender }) (handing state.machine named sender) in
    but_if (can_hand_over state.machine named sender) seen (hands (with_seen state seen)) (replies (says.Refused why.Nothing) (with_seen state seen)) (hands state) (replies (says.Refused why.Nothing) state) refl refl

deferring_but : (state : Frontier) (seen : List ℕ) (named : ℕ) (fetched : Option Deferred) → But seen (deferring (with_seen state seen) named fetched).state (deferring state named fetched).state
deferring_but state seen named None = taken_but state seen named (in_fetch state.machine named)
deferring_but state seen named (Some url) = refl

exchange_but : (state : Frontier) (seen : List ℕ) (request : Request) → But (seen_next (Ok request) (exchange state request).answer seen) (exchange (with_seen state seen) request).state (exchange state request).state
exchange_but state seen (Offer url named) = refl
exchange_but state seen (Next named) = next_but state seen named (deferrals_at state named).waiting (deferrals_at state named).fetched
exchange_but state seen (Again named) = again_but state seen named (deferrals_at state named).fetched
exchange_but state seen (Later named) = deferring_but state seen named (deferrals_at state named).fetched
exchange_but state seen (Done named) = finishing_but state seen named (deferrals_at state named).fetched
exchange_but state seen (Stats queue) = refl
exchange_but state seen (Seen named count) = refl
exchange_but state seen EndSeeds = refl

pub answered_but : (state : Frontier) (seen : List ℕ) (r : Result Request RequestError) → (answered (with_seen state seen) r).state ≡ with_seen (answered state r).state (seen_next r (answered state r).answer seen)
answered_but state seen (Ok request) = exchange_but state seen request
answered_but state seen (Err why) = refl

-- so the numbers of a state are those after the request
pub answered_seen : (state : Frontier) (r : Result Request RequestError) → (answered state r).state.seen ≡ seen_next r (answered state r).answer state.seen
answered_seen state r = ap (λ (s : Frontier). s.seen) (answered_but state state.seen r)
