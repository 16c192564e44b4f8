-- Between two requests the client holds no unit, so the answers to each request are those of the table.
use Rattle.crawl_session.proofs.Prelude.{◌≡◌, ℕ, suc, arith, ◌<◌, ◌≤◌, Bool, true, false, ◌||◌, if◌then◌else◌, List, [], ◌∷◌, length, nat_eq, get_or, slice_get, Option, Some, None, Result, Ok, Err, IfOk, refl, sym, ap, subst, ◌∙◌, true≢false, nat_tests, All, list_any, length-replicate, nat_cmp, is_at, nat_cmp_total, All-nil, All-cons, slice_get-get_or, Event, Reply, in_fetch, GateSide, GateTurn, back, enter, gave_back, grant, holds, let_go, look, remembers, shown_word, turned_away, units_out, can_hand_over, holds_after, State, unfinished_in, Turn, turn, admit_to, done_with, take_from, Subqueue, empty_subqueue, holds_less, start_sound, list_any-insert_key, lookup-insert_entry, Sound, gate_effect, Request, Offer, Next, Again, Later, Done, EndSeeds, Seen, Stats, RequestError, Replied, LineAnswer, line_answers, Deferred, Exchange, Outcome, by_machine, client, after, deferring, deferring_taken, ends, admitting, entering, exchange, finishing, handing, is_count, is_due, is_entered, is_seen, is_empty, offering, put_back, replies, retaking, seeds_ended, seen_reply, stats_answer, taking, taking_again, taking_next, Frontier, deferrals_at, start, with_deferrals, request_for, answered, Settings, stats_for}
use Rattle.std.proofs.lemmas.Bool.{cond_both}
use Rattle.crawl_core.specs.declared.event.Event.TheVariants as event
use Rattle.crawl_core.specs.declared.reply.Reply.TheVariants as says
use Rattle.crawl_core.specs.declared.reply.Refusal.TheVariants as why
use Rattle.crawl_core.proofs.GateHistory as gate_history
use Rattle.crawl_core.proofs.Holders.{Rising}
use Rattle.crawl_session.specs.Exchanges as exchanges
use Rattle.crawl_session.specs.Tables.{is_reply_to, CanBeAnswered}
use Rattle.crawl_session.proofs.Choices.{either_way}
use Rattle.crawl_session.proofs.Assigned.{IsAssigned, as_requested, assigns_for, assigned_below}

abbrev done_with_it : State → ℕ → Exchange
done_with_it state named = exchanges.done_with state named

-- a state of the machine between two requests
pub record AtRest (workers : ℕ) (state : State) : Type 0 where
  pub sound : Sound state
  pub nobody : holds state.gate client ≡ false
  pub shape : length state.subqueues ≡ workers

-- an event after which the client holds no unit
rests_after : (workers : ℕ) (state : State) (e : Event) → Sound state → length state.subqueues ≡ workers → holds (turn state e).state.gate client ≡ false → AtRest workers (turn state e).state
rests_after workers state e sound shape nobody = grind (arith, gate_effect)

-- what comes of a request: the client holds nothing afterwards, and the answer is one of the table
record Fits (workers : ℕ) (request : Request) (x : Exchange) : Type 0 where
  rests : AtRest workers x.state
  its_reply : CanBeAnswered (Ok request) x.answer

fits_after : (workers : ℕ) (request : Request) (state : State) (e : Event) (more : Reply → State → Exchange) → Fits workers request (more (turn state e).reply (turn state e).state) → Fits workers request (after state e more)
fits_after workers request state e more fits = record { rests = fits.rests; its_reply = fits.its_reply }

-- whether the client is one of these
abbrev has_client : List ℕ → Bool
has_client holders = list_any (is_at (nat_cmp client)) holders

-- ---- requests of a subqueue's worker

-- a turn leaves the holders as they are, and its reply passes the test
record Leaves (holders : List ℕ) (test : Reply → Bool) (done : Turn) : Type 0 where
  same : done.state.gate.holders ≡ holders
  passes : test done.reply ≡ true

-- a reply that can be the answer, or the reply that nothing waits
taken_or_empty : ℕ → Reply → Bool
taken_or_empty named reply = is_empty reply || is_reply_to (Next named) reply

take_leaves : (state : State) (named : ℕ) (queue : Option Subqueue) → Leaves state.gate.holders (taken_or_empty named) (take_from state named queue)
unfolding taken_or_empty
take_leaves state named queue = grind arith

done_leaves : (state : State) (named : ℕ) (queue : Option Subqueue) → Leaves state.gate.holders (is_reply_to (Done named)) (done_with state named queue)
done_leaves state named queue = grind arith

-- likewise for a gate's turn
record Keeps (holders : List ℕ) (test : Reply → Bool) (done : GateTurn) : Type 0 where
  same : done.gate.holders ≡ holders
  passes : test done.reply ≡ true

close_keeps : (named : ℕ) (gate : GateSide) (messages : ℕ) → Keeps gate.holders (is_reply_to (Next named)) (if gate.closed || nat_eq (units_out gate messages) 0 then record { reply = says.Closed; gate = record gate { closed = true } } else record { reply = says.Pending (units_out gate messages); gate = gate })
close_keeps named gate messages = either_way (Keeps gate.holders (is_reply_to (Next named))) (gate.closed || nat_eq (units_out gate messages) 0) _ _ (record { same = refl; passes = refl }) (record { same = refl; passes = refl })

or_other : (a b : Bool) → (a || b) ≡ true → a ≡ false → b ≡ true
or_other a b passes none = grind arith

next_fits : (workers named : ℕ) (state : State) → AtRest workers state → Fits workers (Next named) (taking state named)
unfolding taken_or_empty
next_fits workers named state rest =
    let done = turn state (event.Take named) in
    let leaves = take_leaves state named (slice_get state.subqueues named) in
    let at_rest = rests_after workers state (event.Take named) rest.sound rest.shape (ap has_client leaves.same ∙ rest.nobody) in
    let closing = close_keeps named done.state.gate (unfinished_in done.state) in
    fits_after workers (Next named) state (event.Take named) (λ reply taken. if is_empty reply then after taken event.Close ends else ends reply taken)
    (cond_both (is_empty done.reply) (after done.state event.Close ends) (ends done.reply done.state) (Fits workers (Next named))
    (λ empty. record { rests = rests_after workers done.state event.Close at_rest.sound at_rest.shape (ap has_client closing.same ∙ at_rest.nobody); its_reply = closing.passes })
    (λ some. record { rests = at_rest; its_reply = or_other (is_empty done.reply) (is_reply_to (Next named) done.reply) leaves.passes some }))

-- ---- an offer

-- the client, which holds nothing and remembers the current word, enters, or is refused since the gate is closed or full
abbrev pub tried : GateSide → ℕ → GateTurn
tried gate messages =
    if gate.closed then turned_away gate why.Closed
    else if nat_eq (units_out gate messages) gate.max then turned_away gate why.Full
    else grant gate messages client

pub entry_is : (gate : GateSide) (messages : ℕ) → holds gate client ≡ false → remembers gate client ≡ Some (shown_word gate messages) → enter gate messages client ≡ tried gate messages
entry_is gate messages nobody word = grind arith

pub record Entry (url : List ℕ) (named : ℕ) (done : GateTurn) : Type 0 where
  pub refused : is_entered done.reply ≡ false → (is_reply_to (Offer url named) done.reply ≡ true) × (holds done.gate client ≡ false)
  pub entered : is_entered done.reply ≡ true → holds done.gate client ≡ true

pub tries : (url : List ℕ) (named : ℕ) (gate : GateSide) (messages : ℕ) → holds gate client ≡ false → Entry url named (tried gate messages)
tries url named gate messages nobody =
    either_way (Entry url named) gate.closed (turned_away gate why.Closed) (if nat_eq (units_out gate messages) gate.max then turned_away gate why.Full else grant gate messages client)
    (record { refused = λ _. (refl, nobody); entered = λ e. absurd (true≢false (sym e)) })
    (either_way (Entry url named) (nat_eq (units_out gate messages) gate.max) (turned_away gate why.Full) (grant gate messages client)
    (record { refused = λ _. (refl, nobody); entered = λ e. absurd (true≢false (sym e)) })
    (record { refused = λ e. absurd (true≢false e); entered = λ _. list_any-insert_key nat_cmp_total client client gate.holders }))

pub looked_word : (gate : GateSide) (messages : ℕ) → remembers (look gate messages client).gate client ≡ Some (shown_word gate messages)
looked_word gate messages = lookup-insert_entry nat_cmp_total client client (shown_word gate messages) gate.remembered

-- an admission while the client holds a unit: the URL was seen, or the unit goes with the URL
record Admission (state : State) (url : List ℕ) (named : ℕ) (done : Turn) : Type 0 where
  seen : is_seen done.reply ≡ true → done.state ≡ state
  other : is_seen done.reply ≡ false → (is_reply_to (Offer url named) done.reply ≡ true) × (holds done.state.gate client ≡ false)

admits : (state : State) (url : List ℕ) (named : ℕ) (queue : Subqueue) → Sound state → holds state.gate client ≡ true → Admission state url named (admit_to state client url named (Some queue))
admits state url named queue sound held = grind (arith, either_way, holds_less)

back_leaves : (gate : GateSide) (messages : ℕ) → Rising 0 gate.holders → holds gate client ≡ true → holds (back gate messages client).gate client ≡ false
back_leaves gate messages rising held = grind (arith, holds_less)

admitting_fits : (workers : ℕ) (url : List ℕ) (named : ℕ) (state : State) → named < workers → Sound state → length state.subqueues ≡ workers → holds state.gate client ≡ true → Fits workers (Offer url named) (admitting state url named)
admitting_fits workers url named state below sound shape held =
    let admit = event.Admit client url named in
    let queue = get_or state.subqueues named empty_subqueue in
    let there : slice_get state.subqueues named ≡ Some queue = slice_get-get_or state.subqueues named empty_subqueue (subst (λ n. named < n) (sym shape) below) in
    let done = turn state admit in
    let admission : Admission state url named done = subst (λ q. Admission state url named (admit_to state client url named q)) (sym there) (admits state url named queue sound held) in
    let effect = gate_effect state sound admit in
    fits_after workers (Offer url named) state admit (λ reply admitted. if is_seen reply then after admitted (event.Back client) (λ _ left. ends says.Seen left) else ends reply admitted)
    (cond_both (is_seen done.reply) (after done.state (event.Back client) (λ _ left. ends says.Seen left)) (ends done.reply done.state) (Fits workers (Offer url named))
    (λ seen.
    let still : holds done.state.gate client ≡ true = ap (λ (s : State). holds s.gate client) (admission.seen seen) ∙ held in
    record {
      rests = rests_after workers done.state (event.Back client) effect.sound (effect.right_length ∙ shape) (back_leaves done.state.gate (unfinished_in done.state) effect.sound.holders still);
      its_reply = refl;
    })
    (λ other. record { rests = rests_after workers state admit sound shape (admission.other other).1; its_reply = (admission.other other).0 }))

offer_fits : (workers : ℕ) (url : List ℕ) (named : ℕ) (state : State) → named < workers → AtRest workers state → Fits workers (Offer url named) (offering state url named)
offer_fits workers url named state below rest =
    let first = turn state (event.Look client) in
    let second = turn first.state (event.Enter client) in
    let messages = unfinished_in state in
    let looking = gate_effect state rest.sound (event.Look client) in
    let entering_it = gate_effect first.state looking.sound (event.Enter client) in
    let shape : length first.state.subqueues ≡ workers = looking.right_length ∙ rest.shape in
    let entry : Entry url named (enter first.state.gate messages client) =
    subst (Entry url named) (sym (entry_is first.state.gate messages rest.nobody (looked_word state.gate messages))) (tries url named first.state.gate messages rest.nobody) in
    fits_after workers (Offer url named) state (event.Look client) (λ _ looked. entering looked url named)
    (fits_after workers (Offer url named) first.state (event.Enter client) (λ reply entered. if is_entered reply then admitting entered url named else ends reply entered)
    (cond_both (is_entered second.reply) (admitting second.state url named) (ends second.reply second.state) (Fits workers (Offer url named))
    (λ entered. admitting_fits workers url named second.state below entering_it.sound (entering_it.right_length ∙ shape) (entry.entered entered))
    (λ refused. record { rests = rests_after workers first.state (event.Enter client) looking.sound shape (entry.refused refused).1; its_reply = (entry.refused refused).0 })))

-- ---- URLs that are put back

-- another sender's entry does not change whether the client holds a unit
enters_apart : (who : ℕ) (held : Bool) (reply : Reply) → holds_after client held (event.Enter (suc who)) reply ≡ held
enters_apart who held reply = grind (arith, nat_tests)

handing_fits : (workers named who : ℕ) (state : State) → AtRest workers state → Fits workers (Later named) (handing state named (suc who))
handing_fits workers named who state rest =
    let sender = suc who in
    let freed = turn state (event.Done named) in
    let done = gate_effect state rest.sound (event.Done named) in
    let seen = turn freed.state (event.Look sender) in
    let looked = gate_effect freed.state done.sound (event.Look sender) in
    let inside = turn seen.state (event.Enter sender) in
    let entered = gate_effect seen.state looked.sound (event.Enter sender) in
    let shape : length seen.state.subqueues ≡ workers = looked.right_length ∙ done.right_length ∙ rest.shape in
    let nobody : holds freed.state.gate client ≡ false = (gate_history.held state rest.sound (event.Done named)).holders client ∙ rest.nobody in
    record {
      rests = rests_after workers seen.state (event.Enter sender) looked.sound shape ((gate_history.held seen.state looked.sound (event.Enter sender)).holders client ∙ enters_apart who (holds seen.state.gate client) inside.reply ∙ nobody);
      its_reply = refl;
    }

back_apart : (sender : ℕ) (reply : Reply) → holds_after client false (event.Back sender) reply ≡ false
back_apart sender reply = grind (arith, nat_tests)

back_answered : (named : ℕ) (gate : GateSide) (messages sender : ℕ) → is_reply_to (Done named) (back gate messages sender).reply ≡ true
back_answered named gate messages sender = either_way (λ (t : GateTurn). is_reply_to (Done named) t.reply ≡ true) (holds gate sender) (gave_back (let_go gate sender) messages) (turned_away gate why.Nothing) refl refl

-- ---- what comes of a request

-- the client holds nothing afterwards, and the answer is one of the table
pub record Suits (workers : ℕ) (request : Request) (x : Outcome) : Type 0 where
  pub rests : AtRest workers x.state.machine
  pub its_reply : CanBeAnswered (Ok request) x.answer

suits_machine : (workers : ℕ) (request : Request) (frontier : Frontier) (x : Exchange) → Fits workers request x → Suits workers request (by_machine frontier x)
suits_machine workers request frontier x fits = record { rests = fits.rests; its_reply = fits.its_reply }

suits_still : (workers : ℕ) (request : Request) (frontier : Frontier) (reply : Reply) → AtRest workers frontier.machine → is_reply_to request reply ≡ true → Suits workers request (replies reply frontier)
suits_still workers request frontier reply rest its_reply = record { rests = rest; its_reply = its_reply }

next_suits : (workers named : ℕ) (frontier : Frontier) (waiting : List Deferred) (fetched : Option Deferred) → AtRest workers frontier.machine → Suits workers (Next named) (taking_next frontier named waiting fetched)
next_suits workers named frontier waiting (Some url) rest = suits_still workers (Next named) frontier (says.Refused why.Busy) rest refl
next_suits workers named frontier waiting None rest =
    either_way (Suits workers (Next named)) (is_due (slice_get frontier.machine.subqueues named) waiting) (retaking frontier named waiting) (by_machine frontier (taking frontier.machine named))
    (by_waiting waiting) (suits_machine workers (Next named) frontier (taking frontier.machine named) (next_fits workers named frontier.machine rest))
  where
    by_waiting : (waiting : List Deferred) → Suits workers (Next named) (retaking frontier named waiting)
    by_waiting [] = record { rests = rest; its_reply = refl }
    by_waiting (first ∷ more) = record { rests = rest; its_reply = refl }

again_suits : (workers named : ℕ) (frontier : Frontier) (fetched : Option Deferred) → AtRest workers frontier.machine → Suits workers (Again named) (taking_again frontier named fetched)
again_suits workers named frontier fetched rest = grind arith

done_fits : (workers named : ℕ) (state : State) → AtRest workers state → Fits workers (Done named) (done_with_it state named)
done_fits workers named state rest =
    let leaves = done_leaves state named (slice_get state.subqueues named) in
    record { rests = rests_after workers state (event.Done named) rest.sound rest.shape (ap has_client leaves.same ∙ rest.nobody); its_reply = leaves.passes }

finishing_suits : (workers named : ℕ) (frontier : Frontier) (fetched : Option Deferred) → AtRest workers frontier.machine → Suits workers (Done named) (finishing frontier named fetched)
finishing_suits workers named frontier None rest = suits_machine workers (Done named) frontier (done_with_it frontier.machine named) (done_fits workers named frontier.machine rest)
finishing_suits workers named frontier (Some url) rest =
    let state = frontier.machine in
    let back_event = event.Back url.sender in
    let done = turn state back_event in
    let left : Frontier = record frontier { machine = done.state } in
    let nobody : holds done.state.gate client ≡ false = (gate_history.held state rest.sound back_event).holders client ∙ ap (λ b. holds_after client b back_event done.reply) rest.nobody ∙ back_apart url.sender done.reply in
    let rests = rests_after workers state back_event rest.sound rest.shape nobody in
    record {
      rests = either_way (λ (s : Frontier). AtRest workers s.machine) (is_count done.reply) (with_deferrals left named (record { waiting = (deferrals_at frontier named).waiting; fetched = None })) left rests rests;
      its_reply = back_answered named state.gate (unfinished_in state) url.sender;
    }

taken_suits : (workers named : ℕ) (frontier : Frontier) (found : Option (Option (List ℕ))) → AtRest workers frontier.machine → Suits workers (Later named) (deferring_taken frontier named found)
taken_suits workers named frontier None rest = suits_still workers (Later named) frontier (says.Refused why.NoSuch) rest refl
taken_suits workers named frontier (Some None) rest = suits_still workers (Later named) frontier (says.Refused why.Nothing) rest refl
taken_suits workers named frontier (Some (Some url)) rest =
    let sender = suc frontier.senders in
    let put : Frontier = record (put_back frontier named url sender) { senders = sender } in
    either_way (Suits workers (Later named)) (can_hand_over frontier.machine named sender) (by_machine put (handing frontier.machine named sender)) (replies (says.Refused why.Nothing) frontier)
    (suits_machine workers (Later named) put (handing frontier.machine named sender) (handing_fits workers named frontier.senders frontier.machine rest))
    (suits_still workers (Later named) frontier (says.Refused why.Nothing) rest refl)

deferring_suits : (workers named : ℕ) (frontier : Frontier) (fetched : Option Deferred) → AtRest workers frontier.machine → Suits workers (Later named) (deferring frontier named fetched)
deferring_suits workers named frontier None rest = taken_suits workers named frontier (in_fetch frontier.machine named) rest
deferring_suits workers named frontier (Some url) rest = record { rests = rest; its_reply = refl }

seeds_fit : (workers : ℕ) (state : State) → AtRest workers state → Fits workers EndSeeds (seeds_ended state)
seeds_fit workers state rest = grind arith

stats_answered : (frontier : Frontier) (queue : Option ℕ) → CanBeAnswered (Ok (Stats queue)) (stats_answer (stats_for frontier queue))
stats_answered frontier queue = grind arith

seen_answered : (named count : ℕ) (before : Option ℕ) → CanBeAnswered (Ok (Seen named count)) (Replied (seen_reply before))
seen_answered named count None = refl
seen_answered named count (Some n) = refl

request_suits : (workers : ℕ) (frontier : Frontier) (request : Request) → IfOk (as_requested request) (IsAssigned workers) → 1 ≤ workers → AtRest workers frontier.machine → Suits workers request (exchange frontier request)
request_suits workers frontier (Offer url named) assigned some rest =
    let suits = suits_machine workers (Offer url named) frontier (offering frontier.machine url named) (offer_fits workers url named frontier.machine (assigned_below workers url named some assigned) rest) in
    record { rests = suits.rests; its_reply = suits.its_reply }
request_suits workers frontier (Next named) assigned some rest = next_suits workers named frontier (deferrals_at frontier named).waiting (deferrals_at frontier named).fetched rest
request_suits workers frontier (Again named) assigned some rest = again_suits workers named frontier (deferrals_at frontier named).fetched rest
request_suits workers frontier (Later named) assigned some rest = deferring_suits workers named frontier (deferrals_at frontier named).fetched rest
request_suits workers frontier (Done named) assigned some rest = finishing_suits workers named frontier (deferrals_at frontier named).fetched rest
request_suits workers frontier (Seen named count) assigned some rest = record { rests = rest; its_reply = seen_answered named count (slice_get frontier.seen named) }
request_suits workers frontier (Stats queue) assigned some rest = record { rests = rest; its_reply = stats_answered frontier queue }
request_suits workers frontier EndSeeds assigned some rest = suits_machine workers EndSeeds frontier (seeds_ended frontier.machine) (seeds_fit workers frontier.machine rest)

-- ---- lines

pub line_fits : (workers : ℕ) (state : Frontier) (r : Result Request RequestError) → IfOk r (IsAssigned workers) → 1 ≤ workers → AtRest workers state.machine → AtRest workers (answered state r).state.machine × CanBeAnswered r (answered state r).answer
line_fits workers state (Ok request) assigned some rest = let suits = request_suits workers state request assigned some rest in (suits.rests, suits.its_reply)
line_fits workers state (Err why) assigned some rest = (rest, refl)

abbrev Fit : LineAnswer → Type 0
Fit x = CanBeAnswered x.request x.answer

lines_fit : (settings : Settings) (state : Frontier) (lines : List (List ℕ)) → 1 ≤ settings.workers → AtRest settings.workers state.machine → All Fit (line_answers settings state lines)
lines_fit settings state [] some rest = All-nil Fit
lines_fit settings state (line ∷ more) some rest =
    let r = request_for settings line in
    let here = line_fits settings.workers state r (assigns_for settings line) some rest in
    All-cons Fit (record { request = r; answer = (answered state r).answer }) (line_answers settings (answered state r).state more) here.1 (lines_fit settings (answered state r).state more some here.0)

pub starts_at_rest : (workers max : ℕ) → AtRest workers (start workers max).machine
starts_at_rest workers max = record { sound = start_sound workers max; nobody = refl; shape = length-replicate workers empty_subqueue }

pub answers_fit : (settings : Settings) (max : ℕ) (lines : List (List ℕ)) → 1 ≤ settings.workers → All Fit (line_answers settings (start settings.workers max) lines)
answers_fit settings max lines some =
    lines_fit settings (start settings.workers max) lines some (starts_at_rest settings.workers max)
