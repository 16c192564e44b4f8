-- A session with the answer that the frontier is closed.
use Rattle.crawl_session.proofs.Prelude.{◌≡◌, ℕ, List, [], ◌∷◌, ◌++◌, slice_get, Option, Some, None, Result, Ok, Err, sym, ap, subst, ◌∙◌, arith, append_assoc, append-nil, Event, Reply, State, turn, Replied, Request, Offer, Next, Again, Later, Done, EndSeeds, Seen, Stats, RequestError, Deferred, Outcome, counting, deferring, seen_reply, exchange, finishing, offering, taking, taking_again, taking_next, Frontier, deferrals_at, request_for, answered, line_exchange, history_of, state_after, Settings}
use Rattle.crawl_core.specs.declared.event.Event.TheVariants as event
use Rattle.crawl_core.specs.declared.reply.Reply.TheVariants as says
use Rattle.crawl_session.proofs.Choices.{either_way}
use Rattle.crawl_session.proofs.Lines.{history_of-append}

-- ---- the frontier was found closed

-- the last event found the gate closed
pub record Closes (history : List (Event × Reply)) : Type 0 where
  pub before : List (Event × Reply)
  pub last : Event
  pub is : history ≡ before ++ (last, says.Closed) ∷ []

answered_is : {a b : Reply} → Replied a ≡ Replied b → a ≡ b
answered_is e = cc

closes_at : (e : Event) (reply : Reply) → reply ≡ says.Closed → Closes ((e, reply) ∷ [])
closes_at e reply is = record { before = []; last = e; is = ap (λ r. (e, r) ∷ []) is }

closes_after : (x : Event × Reply) (history : List (Event × Reply)) → Closes history → Closes (x ∷ history)
closes_after x history closes = record { before = x ∷ closes.before; last = closes.last; is = ap (λ l. x ∷ l) closes.is }

offering_closes : (state : State) (url : List ℕ) (named : ℕ) → (offering state url named).answer ≡ Replied says.Closed → Closes (offering state url named).history
offering_closes state url named closed = grind (arith, closes_after, closes_at, answered_is)

taking_closes : (state : State) (named : ℕ) → (taking state named).answer ≡ Replied says.Closed → Closes (taking state named).history
taking_closes state named closed = grind (arith, closes_after, closes_at, answered_is)

abbrev ClosesSo : Outcome → Type 0
ClosesSo x = x.answer ≡ Replied says.Closed → Closes x.history

next_closes : (state : Frontier) (named : ℕ) (waiting : List Deferred) (fetched : Option Deferred) → ClosesSo (taking_next state named waiting fetched)
next_closes state named waiting fetched = grind (arith, either_way, taking_closes)

again_closes : (state : Frontier) (named : ℕ) (fetched : Option Deferred) → ClosesSo (taking_again state named fetched)
again_closes state named fetched = grind arith

deferring_closes : (state : Frontier) (named : ℕ) (fetched : Option Deferred) → ClosesSo (deferring state named fetched)
deferring_closes state named fetched = grind arith

finishing_closes : (state : Frontier) (named : ℕ) (fetched : Option Deferred) → ClosesSo (finishing state named fetched)
finishing_closes state named fetched = grind arith

counting_closes : (state : Frontier) (queue : Option ℕ) → ClosesSo (counting state queue)
counting_closes state queue = grind arith

not_closed : (before : Option ℕ) → Replied (seen_reply before) ≡ Replied says.Closed → ⊥
not_closed None closed = cc
not_closed (Some count) closed = cc

exchange_closes : (state : Frontier) (request : Request) → ClosesSo (exchange state request)
exchange_closes state (Offer url named) = offering_closes state.machine url named
exchange_closes state (Next named) = next_closes state named (deferrals_at state named).waiting (deferrals_at state named).fetched
exchange_closes state (Again named) = again_closes state named (deferrals_at state named).fetched
exchange_closes state (Later named) = deferring_closes state named (deferrals_at state named).fetched
exchange_closes state (Done named) = finishing_closes state named (deferrals_at state named).fetched
exchange_closes state (Stats queue) = counting_closes state queue
exchange_closes state (Seen named count) = λ closed. absurd (not_closed (slice_get state.seen named) closed)
exchange_closes state EndSeeds = λ closed. closes_at event.EndSeeds (turn state.machine event.EndSeeds).reply (answered_is closed)

pub answered_closes : (state : Frontier) (asks : Result Request RequestError) → (answered state asks).answer ≡ Replied says.Closed → Closes (answered state asks).history
answered_closes state (Ok request) closed = exchange_closes state request closed
answered_closes state (Err why) closed = absurd (cc (closed))

closes_later : (front history : List (Event × Reply)) → Closes history → Closes (front ++ history)
closes_later front history closes = record { before = front ++ closes.before; last = closes.last; is = ap (λ l. front ++ l) closes.is ∙ sym (append_assoc front closes.before ((closes.last, says.Closed) ∷ [])) }

-- if the answer to the last line is that the frontier is closed, the last event found the gate closed
pub session_closes : (settings : Settings) (state : Frontier) (front : List (List ℕ)) (line : List ℕ) → (line_exchange settings (state_after settings state front) line).answer ≡ Replied says.Closed → Closes (history_of settings state (front ++ line ∷ []))
session_closes settings state front line closed =
    let mid = state_after settings state front in
    let here = line_exchange settings mid line in
    let last = closes_later (history_of settings state front) here.history (answered_closes mid (request_for settings line) closed) in
    subst Closes (sym (history_of-append settings state front (line ∷ []) ∙ ap (λ l. history_of settings state front ++ l) (append-nil here.history))) last
