-- What the answers say about URLs is what the events say.
use Rattle.crawl_session.proofs.Prelude.{◌≡◌, ℕ, suc, ◌+◌, Bool, true, false, cond, if◌then◌else◌, nat_eq, slice_get, List, [], ◌∷◌, ◌++◌, map, Option, Some, None, Result, Ok, Err, refl, sym, ap, subst, ◌∙◌, true≢false, arith, nat_tests, cons_option, map-append, filter_map-append, sum_by-append, sum_by-cons, Event, Reply, in_fetch, Message, can_hand_over, State, turn, Subqueue, eqb_same, Replied, Request, Offer, Next, Again, Later, Done, EndSeeds, Seen, Stats, RequestError, Deferred, LineAnswer, line_answers, accepts, takes, finishes, puts_back, accepted_of, taken_of, done_of, put_back_of, NonePutBack, Deferrals, Frontier, NoneDeferred, deferrals_at, request_for, answered, line_exchange, history_of, Settings}
use Rattle.crawl_core.specs.declared.event.Event.TheVariants as event
use Rattle.crawl_core.specs.declared.reply.Reply.TheVariants as says
use Rattle.crawl_core.specs.declared.reply.Refusal.TheVariants as why
use Rattle.crawl_core.specs.History.{accepted_by, accepted_in, accepted_urls, taken_by, taken_urls, done_by, done_in}
use Rattle.crawl_session.specs.Exchanges.{Exchange, Outcome, after, again, by_machine, client, deferring, deferring_taken, done_with, ends, exchange, finishing, handing, is_due, is_seen, offering, put_back, replies, retaking, seeds_ended, taking, taking_again, taking_next, taken_again}
use Rattle.crawl_session.proofs.Choices.{either_way}

-- what the events of an exchange say about a queue agrees with the answer
record Agree (queue : ℕ) (request : Result Request RequestError) (x : Exchange) : Type 0 where
  accepted : accepted_urls queue x.history ≡ cons_option (accepts queue request x.answer) []
  taken : taken_urls queue x.history ≡ cons_option (takes queue request x.answer) []
  done : done_in queue x.history ≡ cond (finishes queue request x.answer) 1 0

-- an event that says nothing of URLs
looked : (queue sender : ℕ) (reply : Reply) (request : Result Request RequestError) (x : Exchange) → Agree queue request x → Agree queue request (record x { history = (event.Look sender, reply) ∷ x.history })
looked queue sender reply request x agree = record { accepted = agree.accepted; taken = agree.taken; done = agree.done }

entered : (queue sender : ℕ) (reply : Reply) (request : Result Request RequestError) (x : Exchange) → Agree queue request x → Agree queue request (record x { history = (event.Enter sender, reply) ∷ x.history })
entered queue sender reply request x agree = record { accepted = agree.accepted; taken = agree.taken; done = agree.done }

-- ---- replies that never come

-- a reply that reports neither that a URL was accepted nor that one was taken
unfoldable pub is_other : Reply → Bool
is_other (says.Accepted there number) = false
is_other (says.Taken url) = false
is_other _ = true

pub entry_says : (state : State) (sender : ℕ) → is_other (turn state (event.Enter sender)).reply ≡ true
unfolding is_other
entry_says state sender = grind arith

-- ---- requests

-- an offer that did not enter the gate
not_entered : (queue named : ℕ) (url : List ℕ) (reply : Reply) (state : State) → is_other reply ≡ true → Agree queue (Ok (Offer url named)) (ends reply state)
unfolding is_other
not_entered queue named url reply state other = grind arith

-- the exchange from an admission on, by the reply to it
abbrev admitted : ℕ → ℕ → List ℕ → Reply → State → Exchange
admitted queue named url reply state =
    let rest = if is_seen reply then after state (event.Back client) (λ _ left. ends says.Seen left) else ends reply state in
    record rest { history = (event.Admit client url named, reply) ∷ rest.history }

admitted_agrees : (queue named : ℕ) (url : List ℕ) (reply : Reply) (state : State) → Agree queue (Ok (Offer url named)) (admitted queue named url reply state)
admitted_agrees queue named url reply state = grind arith

taken : (queue named : ℕ) (reply : Reply) (state : State) → Agree queue (Ok (Next named)) (record { history = (event.Take named, reply) ∷ []; answer = Replied reply; state = state })
taken queue named reply state = grind arith

next_agrees : (queue named : ℕ) (state : State) → Agree queue (Ok (Next named)) (taking state named)
next_agrees queue named state = grind arith

done_agrees : (queue named : ℕ) (reply : Reply) (state : State) → Agree queue (Ok (Done named)) (record { history = (event.Done named, reply) ∷ []; answer = Replied reply; state = state })
done_agrees queue named reply state = grind arith

-- the request `again` takes no URL: its answer repeats the URL that is being fetched
again_agrees : (queue named : ℕ) (reply : Reply) (state : State) → Agree queue (Ok (Again named)) (ends reply state)
again_agrees queue named reply state = record { accepted = refl; taken = refl; done = refl }

offer_agrees : (queue named : ℕ) (url : List ℕ) (state : State) → Agree queue (Ok (Offer url named)) (offering state url named)
offer_agrees queue named url state = grind (arith, nat_tests, looked, entered, either_way, admitted_agrees, not_entered, entry_says)

-- ---- what was accepted, whatever was put back

abbrev AcceptsSo : ℕ → Result Request RequestError → Outcome → Type 0
AcceptsSo queue r x = accepted_urls queue x.history ≡ cons_option (accepts queue r x.answer) []

next_accepts : (queue named : ℕ) (frontier : Frontier) (waiting : List Deferred) (fetched : Option Deferred) → AcceptsSo queue (Ok (Next named)) (taking_next frontier named waiting fetched)
next_accepts queue named frontier waiting fetched = grind arith

again_accepts : (queue named : ℕ) (frontier : Frontier) (fetched : Option Deferred) → AcceptsSo queue (Ok (Again named)) (taking_again frontier named fetched)
again_accepts queue named frontier fetched = grind arith

later_accepts : (queue named : ℕ) (frontier : Frontier) (fetched : Option Deferred) (found : Option (Option (List ℕ))) → in_fetch frontier.machine named ≡ found → AcceptsSo queue (Ok (Later named)) (deferring frontier named fetched)
later_accepts queue named frontier fetched found is = grind arith

done_accepts : (queue named : ℕ) (frontier : Frontier) (fetched : Option Deferred) → AcceptsSo queue (Ok (Done named)) (finishing frontier named fetched)
done_accepts queue named frontier fetched = grind arith

answered_accepts : (queue : ℕ) (frontier : Frontier) (r : Result Request RequestError) → AcceptsSo queue r (answered frontier r)
answered_accepts queue frontier r = grind (arith, offer_agrees, next_accepts, again_accepts, later_accepts, done_accepts)

-- ---- what was taken and done, if nothing is put back

abbrev as_exchange : Outcome → Exchange
as_exchange x = record { history = x.history; answer = x.answer; state = x.state.machine }

-- the answer agrees with the events, and still nothing is put back
record AgreesOn (r : Result Request RequestError) (x : Outcome) : Type 0 where
  agree : (queue : ℕ) → Agree queue r (as_exchange x)
  none : NoneDeferred x.state

agrees_by_machine : (r : Result Request RequestError) (frontier : Frontier) (x : Exchange) → NoneDeferred frontier → ((queue : ℕ) → Agree queue r x) → AgreesOn r (by_machine frontier x)
agrees_by_machine r frontier x none agree = record { agree = agree; none = none }

pub not_due : (queue : Option Subqueue) → false ≡ is_due queue []
not_due queue = grind arith

later_agrees : (frontier : Frontier) (named : ℕ) → NoneDeferred frontier → (found : Option (Option (List ℕ))) → in_fetch frontier.machine named ≡ found → puts_back named (Ok (Later named)) (deferring frontier named None).answer ≡ false → AgreesOn (Ok (Later named)) (deferring frontier named None)
later_agrees frontier named none found is quiet =
    subst (λ o. puts_back named (Ok (Later named)) (deferring_taken frontier named o).answer ≡ false → AgreesOn (Ok (Later named)) (deferring_taken frontier named o)) (sym is) (by_found found) quiet
  where
    by_found : (o : Option (Option (List ℕ))) → puts_back named (Ok (Later named)) (deferring_taken frontier named o).answer ≡ false → AgreesOn (Ok (Later named)) (deferring_taken frontier named o)
    by_found None quiet = record { agree = λ queue. record { accepted = refl; taken = refl; done = refl }; none = none }
    by_found (Some None) quiet = record { agree = λ queue. record { accepted = refl; taken = refl; done = refl }; none = none }
    by_found (Some (Some url)) quiet =
        let sender = suc frontier.senders in
        either_way (λ (x : Outcome). puts_back named (Ok (Later named)) x.answer ≡ false → AgreesOn (Ok (Later named)) x) (can_hand_over frontier.machine named sender) (by_machine (record (put_back frontier named url sender) { senders = sender }) (handing frontier.machine named sender)) (replies (says.Refused why.Nothing) frontier)
        (λ (said : nat_eq named named ≡ false). absurd (true≢false (sym (eqb_same named) ∙ said)))
        (λ said. record { agree = λ queue. record { accepted = refl; taken = refl; done = refl }; none = none })
        quiet

request_agrees : (frontier : Frontier) (request : Request) → NoneDeferred frontier → ((queue : ℕ) → puts_back queue (Ok request) (exchange frontier request).answer ≡ false) → AgreesOn (Ok request) (exchange frontier request)
request_agrees frontier (Offer url named) none quiet =
    let agrees = agrees_by_machine (Ok (Offer url named)) frontier (offering frontier.machine url named) none (λ queue. offer_agrees queue named url frontier.machine) in
    record { agree = agrees.agree; none = agrees.none }
request_agrees frontier (Next named) none quiet =
    let made = agrees_by_machine (Ok (Next named)) frontier (taking frontier.machine named) none (λ queue. next_agrees queue named frontier.machine) in
    let here = subst (λ b. AgreesOn (Ok (Next named)) (if b then retaking frontier named [] else by_machine frontier (taking frontier.machine named))) (not_due (slice_get frontier.machine.subqueues named)) made in
    subst (λ (d : Deferrals). AgreesOn (Ok (Next named)) (taking_next frontier named d.waiting d.fetched)) (sym (none named)) here
request_agrees frontier (Again named) none quiet =
    let made = agrees_by_machine (Ok (Again named)) frontier (again frontier.machine named) none (λ queue. again_agrees queue named (taken_again (in_fetch frontier.machine named)) frontier.machine) in
    subst (λ (d : Deferrals). AgreesOn (Ok (Again named)) (taking_again frontier named d.fetched)) (sym (none named)) made
request_agrees frontier (Later named) none quiet =
    let no : (deferrals_at frontier named).fetched ≡ None = ap (λ (d : Deferrals). d.fetched) (none named) in
    subst (λ o. puts_back named (Ok (Later named)) (deferring frontier named o).answer ≡ false → AgreesOn (Ok (Later named)) (deferring frontier named o)) (sym no) (later_agrees frontier named none (in_fetch frontier.machine named) refl) (quiet named)
request_agrees frontier (Done named) none quiet =
    let done = turn frontier.machine (event.Done named) in
    let made = agrees_by_machine (Ok (Done named)) frontier (done_with frontier.machine named) none (λ queue. done_agrees queue named done.reply done.state) in
    subst (λ (d : Deferrals). AgreesOn (Ok (Done named)) (finishing frontier named d.fetched)) (sym (none named)) made
request_agrees frontier (Seen named count) none quiet = record { agree = λ queue. record { accepted = refl; taken = refl; done = refl }; none = none }
request_agrees frontier (Stats named) none quiet = record { agree = λ queue. record { accepted = refl; taken = refl; done = refl }; none = none }
request_agrees frontier EndSeeds none quiet = agrees_by_machine (Ok EndSeeds) frontier (seeds_ended frontier.machine) none (λ queue. record { accepted = refl; taken = refl; done = refl })

answered_agrees : (frontier : Frontier) (r : Result Request RequestError) → NoneDeferred frontier → ((queue : ℕ) → puts_back queue r (answered frontier r).answer ≡ false) → AgreesOn r (answered frontier r)
answered_agrees frontier (Ok request) none quiet = request_agrees frontier request none quiet
answered_agrees frontier (Err why) none quiet = record { agree = λ queue. record { accepted = refl; taken = refl; done = refl }; none = none }

-- ---- lines

put_first : {A : Type 0} (o : Option A) (xs : List A) → cons_option o [] ++ xs ≡ cons_option o xs
put_first o xs = grind arith

pub sees_accepted : (settings : Settings) (state : Frontier) (lines : List (List ℕ)) (queue : ℕ) → accepted_urls queue (history_of settings state lines) ≡ accepted_of queue (line_answers settings state lines)
sees_accepted settings state [] queue = refl
sees_accepted settings state (line ∷ more) queue =
    let here = line_exchange settings state line in
    let rest = history_of settings here.state more in
    ap (map (λ (m : Message). m.url)) (filter_map-append (λ (x : Event × Reply). accepted_by queue x.0 x.1) here.history rest)
    ∙ map-append (λ (m : Message). m.url) (accepted_in queue here.history) (accepted_in queue rest)
    ∙ ap (λ l. l ++ accepted_urls queue rest) (answered_accepts queue state (request_for settings line))
    ∙ put_first (accepts queue (request_for settings line) here.answer) (accepted_urls queue rest)
    ∙ ap (cons_option (accepts queue (request_for settings line) here.answer)) (sees_accepted settings here.state more queue)

-- if no line put a URL back, the first line did not
count_first : (queue : ℕ) (x : LineAnswer) (more : List LineAnswer) → put_back_of queue (x ∷ more) ≡ cond (puts_back queue x.request x.answer) 1 0 + put_back_of queue more
count_first queue x more = sum_by-cons (λ (y : LineAnswer). cond (puts_back queue y.request y.answer) 1 0) x more

none_first : (b : Bool) (n : ℕ) → cond b 1 0 + n ≡ 0 → (b ≡ false) × (n ≡ 0)
none_first b n none = grind arith

pub quiet_first : (queue : ℕ) (x : LineAnswer) (more : List LineAnswer) → put_back_of queue (x ∷ more) ≡ 0 → puts_back queue x.request x.answer ≡ false
quiet_first queue x more none = (none_first (puts_back queue x.request x.answer) (put_back_of queue more) (sym (count_first queue x more) ∙ none)).0

pub quiet_rest : (queue : ℕ) (x : LineAnswer) (more : List LineAnswer) → put_back_of queue (x ∷ more) ≡ 0 → put_back_of queue more ≡ 0
quiet_rest queue x more none = (none_first (puts_back queue x.request x.answer) (put_back_of queue more) (sym (count_first queue x more) ∙ none)).1

abbrev first_requested : Settings → Frontier → List ℕ → LineAnswer
first_requested settings state line = record { request = request_for settings line; answer = (line_exchange settings state line).answer }

pub sees_taken : (settings : Settings) (state : Frontier) (lines : List (List ℕ)) (queue : ℕ) → NoneDeferred state → NonePutBack (line_answers settings state lines) → taken_urls queue (history_of settings state lines) ≡ taken_of queue (line_answers settings state lines)
sees_taken settings state [] queue none quiet = refl
sees_taken settings state (line ∷ more) queue none quiet =
    let here = line_exchange settings state line in
    let rest = history_of settings here.state more in
    let x = first_requested settings state line in
    let said = answered_agrees state (request_for settings line) none (λ q. quiet_first q x (line_answers settings here.state more) (quiet q)) in
    filter_map-append (λ (x : Event × Reply). taken_by queue x.0 x.1) here.history rest
    ∙ ap (λ l. l ++ taken_urls queue rest) (said.agree queue).taken
    ∙ put_first (takes queue (request_for settings line) here.answer) (taken_urls queue rest)
    ∙ ap (cons_option (takes queue (request_for settings line) here.answer)) (sees_taken settings here.state more queue said.none (λ q. quiet_rest q x (line_answers settings here.state more) (quiet q)))

pub sees_done : (settings : Settings) (state : Frontier) (lines : List (List ℕ)) (queue : ℕ) → NoneDeferred state → NonePutBack (line_answers settings state lines) → done_in queue (history_of settings state lines) ≡ done_of queue (line_answers settings state lines)
sees_done settings state [] queue none quiet = refl
sees_done settings state (line ∷ more) queue none quiet =
    let here = line_exchange settings state line in
    let rest = history_of settings here.state more in
    let x = first_requested settings state line in
    let said = answered_agrees state (request_for settings line) none (λ q. quiet_first q x (line_answers settings here.state more) (quiet q)) in
    sum_by-append (λ (x : Event × Reply). cond (done_by queue x.0 x.1) 1 0) here.history rest
    ∙ ap (λ n. n + done_in queue rest) (said.agree queue).done
    ∙ ap {B = ℕ} (λ n. cond (finishes queue (request_for settings line) here.answer) 1 0 + n) (sees_done settings here.state more queue said.none (λ q. quiet_rest q x (line_answers settings here.state more) (quiet q)))
    ∙ sym (sum_by-cons (λ (x : LineAnswer). cond (finishes queue x.request x.answer) 1 0) x (line_answers settings here.state more))
