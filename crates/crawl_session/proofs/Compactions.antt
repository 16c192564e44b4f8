-- The lines of a log that are needed bring a new session to the same state, except for the gate words that senders remember and the
-- numbers of `seen`. The lines after them bring these numbers back.
use Rattle.crawl_session.proofs.Prelude.{◌≡◌, ℕ, suc, arith, ◌<◌, ◌≤◌, Bool, true, false, ◌||◌, if◌then◌else◌, List, [], ◌∷◌, ◌++◌, length, get_or, replicate, slice_get, Option, Some, None, Result, Ok, Err, IfOk, refl, sym, ap, subst, ◌∙◌, true≢false, is_at, nat_cmp, remove_entry, lines, slice_get-get_or, Event, Reply, GateSide, GateTurn, back, end_seeds, enter, holds, Run, in_fetch, can_hand_over, State, unfinished_in, Turn, turn, admit_to, done_with, Subqueue, empty_subqueue, Sound, gate_effect, Answer, Replied, Counted, Unasked, Request, Offer, Next, Again, Later, Done, EndSeeds, Seen, Stats, RequestError, Had, compacted, had_none, having, says_closed, changes, asks_again, is_needed, needed, log_text, Deferred, Exchange, Outcome, by_machine, client, after, deferring, deferring_taken, ends, admitting, entering, exchange, finishing, handing, is_count, is_due, is_entered, is_seen, noted, offering, put_back, replies, retaking, seeds_ended, seen_reply, taking, taking_again, taking_next, request_for, Frontier, deferrals_at, start, with_deferrals, with_words, answered, answers, line_exchange, state_after, Settings}
use Rattle.std.proofs.lemmas.Bool.{cond_both}
use Rattle.crawl_core.specs.declared.event.Event.TheVariants as event
use Rattle.crawl_core.specs.declared.reply.Reply.TheVariants as says
use Rattle.crawl_core.specs.declared.reply.Refusal.TheVariants as why
use Rattle.crawl_session.specs.Exchanges as exchanges
use Rattle.crawl_session.specs.Seen.{add_seen, none_seen, seen_lines, seen_with}
use Rattle.crawl_session.specs.Steps as machine
use Rattle.crawl_session.proofs.Choices.{either_way}
use Rattle.crawl_session.proofs.Assigned.{IsAssigned, as_requested, assigns_for, assigned_below}
use Rattle.crawl_session.proofs.Closings.{answered_closes}
use Rattle.crawl_session.proofs.CompactText.{needed_holds}
use Rattle.crawl_session.proofs.Lines.{state_after-append}
use Rattle.crawl_session.proofs.Noted.{answered_but, seen_next, with_seen}
use Rattle.crawl_session.proofs.Rests.{AtRest, Entry, entry_is, line_fits, looked_word, starts_at_rest, tries}
use Rattle.crawl_session.proofs.Runs.{answered_runs}
use Rattle.crawl_session.proofs.SeenCounts.{long_after, small_after}
use Rattle.crawl_session.proofs.SeenLines.{AllFit, lines_whole, restored}
use Rattle.crawl_session.proofs.Steps.{returned_gate}
use Rattle.crawl_session.proofs.Words.{Words, answered_alike, words_forgotten}

abbrev done_with_it : State → ℕ → Exchange
done_with_it state named = exchanges.done_with state named

-- the same state, except for the gate words that senders remember
abbrev SameButWords : Frontier → Frontier → Type 0
SameButWords state next = (words : Words) × (next ≡ with_words state words)

-- and with these numbers of `seen`
abbrev with_both : Frontier → Words → List ℕ → Frontier
with_both state words seen = with_seen (with_words state words) seen

abbrev Same : List ℕ → Frontier → Frontier → Type 0
Same seen state next = (words : Words) × (next ≡ with_both state words seen)

-- the same state, except for both
abbrev Stayed : Frontier → Frontier → Type 0
Stayed state next = (seen : List ℕ) × Same seen state next

stayed : (state next : Frontier) → SameButWords state next → Stayed state next
stayed state next same = (state.seen, same)

-- likewise for the machine
abbrev SameMachine : State → State → Type 0
SameMachine state next = (words : Words) × (next ≡ machine.with_words state words)

-- ---- turns whose replies change nothing

record IdleGate (had : Had) (gate : GateSide) (done : GateTurn) : Type 0 where
  same : changes had done.reply ≡ false → done.gate ≡ gate

record Idle (had : Had) (state : State) (done : Turn) : Type 0 where
  same : changes had done.reply ≡ false → done.state ≡ state

end_idle : (had : Had) (gate : GateSide) (messages : ℕ) → IdleGate had gate (end_seeds gate messages)
end_idle had gate messages = grind arith

done_idle : (had : Had) (state : State) (named : ℕ) (queue : Option Subqueue) → Idle had state (done_with state named queue)
done_idle had state named queue = grind arith

-- an entry that is refused leaves the gate as it is
record Refuses (gate : GateSide) (done : GateTurn) : Type 0 where
  same : is_entered done.reply ≡ false → done.gate ≡ gate

enter_refuses : (gate : GateSide) (messages : ℕ) → Refuses gate (enter gate messages client)
enter_refuses gate messages = grind arith

-- a URL that the client's unit admits was seen before, or is accepted
record Admits (had : Had) (state : State) (done : Turn) : Type 0 where
  seen : is_seen done.reply ≡ true → done.state ≡ state
  other : is_seen done.reply ≡ false → changes had done.reply ≡ true

admits : (had : Had) (state : State) (url : List ℕ) (named : ℕ) (queue : Subqueue) → holds state.gate client ≡ true → Admits had state (admit_to state client url named (Some queue))
admits had state url named queue held = grind arith

-- ---- requests whose answers change nothing

abbrev Quiet : Had → Answer → Type 0
Quiet had (Replied reply) = changes had reply ≡ false
Quiet had (Counted stats) = Unit {0}
Quiet had (Unasked why) = Unit {0}

record Stays (had : Had) (state : State) (x : Exchange) : Type 0 where
  same : Quiet had x.answer → SameMachine state x.state

stays_after : (had : Had) (old state : State) (e : Event) (more : Reply → State → Exchange) → Stays had old (more (turn state e).reply (turn state e).state) → Stays had old (after state e more)
stays_after had old state e more stays = record { same = stays.same }

as_it_was : (state next : State) → next ≡ state → SameMachine state next
as_it_was state next same = (state.gate.remembered, same)

next_stays : (had : Had) (state : State) (named : ℕ) → (had.closed ≡ true → state.gate.closed ≡ true) → Stays had state (taking state named)
next_stays had state named known = grind (arith, stays_after, cond_both, as_it_was)

admitting_stays : (had : Had) (workers : ℕ) (url : List ℕ) (named : ℕ) (state old : State) → named < workers → length state.subqueues ≡ workers → holds state.gate client ≡ true → SameMachine old (turn state (event.Back client)).state
    → Stays had old (admitting state url named)
admitting_stays had workers url named state old below shape one leaves =
    let admit = event.Admit client url named in
    let queue = get_or state.subqueues named empty_subqueue in
    let there : slice_get state.subqueues named ≡ Some queue = slice_get-get_or state.subqueues named empty_subqueue (subst (λ n. named < n) (sym shape) below) in
    let done = turn state admit in
    let admission : Admits had state done = subst (λ q. Admits had state (admit_to state client url named q)) (sym there) (admits had state url named queue one) in
    stays_after had old state admit (λ reply admitted. if is_seen reply then after admitted (event.Back client) (λ _ left. ends says.Seen left) else ends reply admitted)
    (cond_both (is_seen done.reply) (after done.state (event.Back client) (λ _ left. ends says.Seen left)) (ends done.reply done.state) (Stays had old)
    (λ seen. record { same = λ quiet. (leaves.0, ap (λ (s : State). (turn s (event.Back client)).state) (admission.seen seen) ∙ leaves.1) })
    (λ other. record { same = λ quiet. absurd (true≢false (sym (admission.other other) ∙ quiet)) }))

offer_stays : (had : Had) (workers : ℕ) (url : List ℕ) (named : ℕ) (state : State) → named < workers → AtRest workers state → Stays had state (offering state url named)
offer_stays had workers url named state below rest =
    let first = turn state (event.Look client) in
    let second = turn first.state (event.Enter client) in
    let messages = unfinished_in state in
    let looking = gate_effect state rest.sound (event.Look client) in
    let entering_it = gate_effect first.state looking.sound (event.Enter client) in
    let shape : length second.state.subqueues ≡ workers = entering_it.right_length ∙ looking.right_length ∙ rest.shape in
    let entry : Entry url named (enter first.state.gate messages client) =
    subst (Entry url named) (sym (entry_is first.state.gate messages rest.nobody (looked_word state.gate messages))) (tries url named first.state.gate messages rest.nobody) in
    let back_as : is_entered second.reply ≡ true → SameMachine state (turn second.state (event.Back client)).state =
    λ entered. (
      remove_entry (is_at (nat_cmp client)) first.state.gate.remembered,
      ap (λ (g : GateSide). record state { gate = g }) (returned_gate first.state.gate messages (unfinished_in second.state) entered),
    ) in
    stays_after had state state (event.Look client) (λ _ looked. entering looked url named)
    (stays_after had state first.state (event.Enter client) (λ reply entered. if is_entered reply then admitting entered url named else ends reply entered)
    (cond_both (is_entered second.reply) (admitting second.state url named) (ends second.reply second.state) (Stays had state)
    (λ entered. admitting_stays had workers url named second.state state below shape (entry.entered entered) (back_as entered))
    (λ refused. record { same = λ quiet. (first.state.gate.remembered, ap (λ (g : GateSide). record first.state { gate = g }) ((enter_refuses first.state.gate messages).same refused)) })))

-- ---- in a state of a session

record Keeps (had : Had) (state : Frontier) (x : Outcome) : Type 0 where
  same : Quiet had x.answer → SameButWords state x.state

keeps_machine : (had : Had) (state : Frontier) (x : Exchange) → Stays had state.machine x → Keeps had state (by_machine state x)
keeps_machine had state x stays = record { same = λ quiet. let found = stays.same quiet in (found.0, ap (λ (s : State). record state { machine = s }) found.1) }

keeps_still : (had : Had) (state : Frontier) (reply : Reply) → Keeps had state (replies reply state)
keeps_still had state reply = record { same = λ quiet. (state.machine.gate.remembered, refl) }

next_keeps : (had : Had) (state : Frontier) (named : ℕ) (waiting : List Deferred) (fetched : Option Deferred) → (had.closed ≡ true → state.machine.gate.closed ≡ true) → Keeps had state (taking_next state named waiting fetched)
next_keeps had state named waiting (Some url) known = keeps_still had state (says.Refused why.Busy)
next_keeps had state named waiting None known =
    either_way (Keeps had state) (is_due (slice_get state.machine.subqueues named) waiting) (retaking state named waiting) (by_machine state (taking state.machine named))
    (by_waiting waiting) (keeps_machine had state (taking state.machine named) (next_stays had state.machine named known))
  where
    by_waiting : (waiting : List Deferred) → Keeps had state (retaking state named waiting)
    by_waiting [] = keeps_still had state (says.Refused why.Busy)
    by_waiting (first ∷ more) = record { same = λ quiet. absurd (true≢false quiet) }

again_keeps : (had : Had) (state : Frontier) (named : ℕ) (fetched : Option Deferred) → Keeps had state (taking_again state named fetched)
again_keeps had state named None = record { same = λ quiet. (state.machine.gate.remembered, refl) }
again_keeps had state named (Some url) = keeps_still had state (says.Taken url.url)

quiet_count : (had : Had) (reply : Reply) → changes had reply ≡ false → is_count reply ≡ false
quiet_count had reply quiet = grind arith

back_idle : (had : Had) (gate : GateSide) (messages sender : ℕ) → IdleGate had gate (back gate messages sender)
back_idle had gate messages sender = grind arith

finishing_keeps : (had : Had) (state : Frontier) (named : ℕ) (fetched : Option Deferred) → Keeps had state (finishing state named fetched)
finishing_keeps had state named None =
    keeps_machine had state (done_with_it state.machine named) (record { same = λ quiet. as_it_was state.machine _ ((done_idle had state.machine named (slice_get state.machine.subqueues named)).same quiet) })
finishing_keeps had state named (Some url) =
    let done = turn state.machine (event.Back url.sender) in
    let left : Frontier = record state { machine = done.state } in
    let freed : Frontier = with_deferrals left named (record { waiting = (deferrals_at state named).waiting; fetched = None }) in
    record {
      same = λ quiet. (
        state.machine.gate.remembered,
        ap (λ b. if b then freed else left) (quiet_count had done.reply quiet)
            ∙ ap (λ (g : GateSide). record state { machine = record state.machine { gate = g } }) ((back_idle had state.machine.gate (unfinished_in state.machine) url.sender).same quiet),
      );
    }

taken_keeps : (had : Had) (state : Frontier) (named : ℕ) (found : Option (Option (List ℕ))) → Keeps had state (deferring_taken state named found)
taken_keeps had state named None = keeps_still had state (says.Refused why.NoSuch)
taken_keeps had state named (Some None) = keeps_still had state (says.Refused why.Nothing)
taken_keeps had state named (Some (Some url)) =
    let sender = suc state.senders in
    either_way (Keeps had state) (can_hand_over state.machine named sender) (by_machine (record (put_back state named url sender) { senders = sender }) (handing state.machine named sender)) (replies (says.Refused why.Nothing) state)
    (record { same = λ quiet. absurd (true≢false quiet) }) (keeps_still had state (says.Refused why.Nothing))

deferring_keeps : (had : Had) (state : Frontier) (named : ℕ) (fetched : Option Deferred) → Keeps had state (deferring state named fetched)
deferring_keeps had state named None = taken_keeps had state named (in_fetch state.machine named)
deferring_keeps had state named (Some url) = record { same = λ quiet. absurd (true≢false quiet) }

-- an offer may be counted
noted_stays : (had : Had) (state : Frontier) (named : ℕ) (x : Outcome) → Keeps had state x → Quiet had x.answer → Stayed state (noted named x).state
noted_stays had state named x keeps quiet =
    let same = keeps.same quiet in
    let seen = (noted named x).state.seen in
    (seen, (same.0, ap (λ (s : Frontier). with_seen s seen) same.1))

kept : (had : Had) (state : Frontier) (x : Outcome) → Keeps had state x → Quiet had x.answer → Stayed state x.state
kept had state x keeps quiet = stayed state x.state (keeps.same quiet)

request_stays : (had : Had) (workers : ℕ) (state : Frontier) (request : Request) → IfOk (as_requested request) (IsAssigned workers) → 1 ≤ workers → AtRest workers state.machine → (had.closed ≡ true → state.machine.gate.closed ≡ true) → Quiet had (exchange state request).answer → Stayed state (exchange state request).state
request_stays had workers state (Offer url named) assigned some rest known quiet =
    noted_stays had state named (by_machine state (offering state.machine url named)) (keeps_machine had state (offering state.machine url named) (offer_stays had workers url named state.machine (assigned_below workers url named some assigned) rest)) quiet
request_stays had workers state (Next named) assigned some rest known quiet = kept had state (exchange state (Next named)) (next_keeps had state named (deferrals_at state named).waiting (deferrals_at state named).fetched known) quiet
request_stays had workers state (Again named) assigned some rest known quiet = kept had state (exchange state (Again named)) (again_keeps had state named (deferrals_at state named).fetched) quiet
request_stays had workers state (Later named) assigned some rest known quiet = kept had state (exchange state (Later named)) (deferring_keeps had state named (deferrals_at state named).fetched) quiet
request_stays had workers state (Done named) assigned some rest known quiet = kept had state (exchange state (Done named)) (finishing_keeps had state named (deferrals_at state named).fetched) quiet
request_stays had workers state (Stats queue) assigned some rest known quiet = stayed state state (state.machine.gate.remembered, refl)
request_stays had workers state (Seen named count) assigned some rest known quiet = (add_seen named count state.seen, (state.machine.gate.remembered, refl))
request_stays had workers state EndSeeds assigned some rest known quiet =
    kept had state (exchange state EndSeeds)
    (keeps_machine had state (seeds_ended state.machine) (record { same = λ quiet. as_it_was state.machine _ (ap (λ (g : GateSide). record state.machine { gate = g }) ((end_idle had state.machine.gate (unfinished_in state.machine)).same quiet)) })) quiet

-- ---- lines that are not needed

quiet_of : (had : Had) (request : Request) (answer : Answer) → asks_again request ≡ false → is_needed had (Ok request) answer ≡ false → Quiet had answer
quiet_of had request answer other is = grind arith

again_same : (state : Frontier) (named : ℕ) (fetched : Option Deferred) → Stayed state (taking_again state named fetched).state
again_same state named None = (state.seen, (state.machine.gate.remembered, refl))
again_same state named (Some url) = (state.seen, (state.machine.gate.remembered, refl))

unneeded : (had : Had) (workers : ℕ) (state : Frontier) (request : Request) (again : Bool) → asks_again request ≡ again → IfOk (as_requested request) (IsAssigned workers) → 1 ≤ workers → AtRest workers state.machine → (had.closed ≡ true → state.machine.gate.closed ≡ true)
    → is_needed had (Ok request) (exchange state request).answer ≡ false → Stayed state (exchange state request).state
unneeded had workers state (Again named) true is assigned some rest known none = again_same state named (deferrals_at state named).fetched
unneeded had workers state request false is assigned some rest known none = request_stays had workers state request assigned some rest known (quiet_of had request (exchange state request).answer is none)
unneeded had workers state _ true is assigned some rest known none = absurd (true≢false (sym is))

line_stays : (had : Had) (workers : ℕ) (state : Frontier) (r : Result Request RequestError) → IfOk r (IsAssigned workers) → 1 ≤ workers → AtRest workers state.machine → (had.closed ≡ true → state.machine.gate.closed ≡ true)
    → is_needed had r (answered state r).answer ≡ false → Stayed state (answered state r).state
line_stays had workers state (Ok request) assigned some rest known none = unneeded had workers state request (asks_again request) refl assigned some rest known none
line_stays had workers state (Err why) assigned some rest known none = (state.seen, (state.machine.gate.remembered, refl))

-- ---- a gate that was reported closed

pub stays_closed : (old : State) (history : List (Event × Reply)) (new : State) → Sound old → old.gate.closed ≡ true → Run old history new → new.gate.closed ≡ true
stays_closed old [] new sound closed run = ap (λ (s : State). s.gate.closed) run ∙ closed
stays_closed old (x ∷ xs) new sound closed run = grind (arith, gate_effect, stays_closed run.0 xs new)

pub closes_run : (old : State) (front : List (Event × Reply)) (last : Event) (new : State) → Sound old → Run old (front ++ (last, says.Closed) ∷ []) new → new.gate.closed ≡ true
closes_run old [] last new sound run = grind arith
closes_run old (x ∷ xs) last new sound run = closes_run run.0 xs last new (subst Sound (sym run.1.state_is) (gate_effect old sound x.0).sound) run.2

closed_is : (answer : Answer) → says_closed answer ≡ true → answer ≡ Replied says.Closed
closed_is answer is = grind arith

knows : (had : Had) (state : Frontier) (r : Result Request RequestError) → Sound state.machine → (had.closed ≡ true → state.machine.gate.closed ≡ true) → (having had (answered state r).answer).closed ≡ true → (answered state r).state.machine.gate.closed ≡ true
knows had state r sound known closed = by_answer (says_closed (answered state r).answer) refl closed
  where
    by_answer : (b : Bool) → says_closed (answered state r).answer ≡ b → (b || had.closed) ≡ true → (answered state r).state.machine.gate.closed ≡ true
    by_answer true is closed =
        let closes = answered_closes state r (closed_is (answered state r).answer is) in
        closes_run state.machine closes.before closes.last (answered state r).state.machine sound (subst (λ h. Run state.machine h (answered state r).state.machine) closes.is (answered_runs state r))
    by_answer false is closed = stays_closed state.machine (answered state r).history (answered state r).state.machine sound (known closed) (answered_runs state r)

-- ---- lines that are needed

offer_keeps : (had : Had) (url : List ℕ) (named : ℕ) (answer : Answer) (seen : List ℕ) → is_needed had (Ok (Offer url named)) answer ≡ true → seen_with named answer seen ≡ seen
offer_keeps had url named answer seen is = grind arith

-- a line that is needed counts nothing
needed_keeps : (had : Had) (state : Frontier) (r : Result Request RequestError) (seen : List ℕ) → is_needed had r (answered state r).answer ≡ true → seen_next r (answered state r).answer seen ≡ seen
needed_keeps had state (Ok (Offer url named)) seen is = offer_keeps had url named (exchange state (Offer url named)).answer seen is
needed_keeps had state (Ok (Next named)) seen is = refl
needed_keeps had state (Ok (Again named)) seen is = refl
needed_keeps had state (Ok (Later named)) seen is = refl
needed_keeps had state (Ok (Done named)) seen is = refl
needed_keeps had state (Ok EndSeeds) seen is = refl
needed_keeps had state (Ok (Stats queue)) seen is = refl
needed_keeps had state (Ok (Seen named count)) seen is = absurd (never (slice_get state.seen named) is)
  where
    never : (before : Option ℕ) → is_needed had (Ok (Seen named count)) (Replied (seen_reply before)) ≡ true → ⊥
    never None is = true≢false (sym is)
    never (Some n) is = true≢false (sym is)
needed_keeps had state (Err why) seen is = refl

-- so it leads to the same state
needed_same : (had : Had) (state : Frontier) (r : Result Request RequestError) (words : Words) (seen : List ℕ) → is_needed had r (answered state r).answer ≡ true → Same seen (answered state r).state (answered (with_both state words seen) r).state
needed_same had state r words seen is =
    let alike = answered_alike (with_seen state seen) words r in
    let done = answered state r in (
      alike.words,
      alike.state
          ∙ ap (λ (s : Frontier). with_words s alike.words) (answered_but state seen r)
          ∙ ap (with_both done.state alike.words) (needed_keeps had state r seen is),
    )

-- ---- a whole log

needed_state : (settings : Settings) (had : Had) (state : Frontier) (words : Words) (seen : List ℕ) (lines : List (List ℕ)) → 1 ≤ settings.workers → AtRest settings.workers state.machine → (had.closed ≡ true → state.machine.gate.closed ≡ true)
    → Same seen (state_after settings state lines) (state_after settings (with_both state words seen) (needed settings had state lines))
needed_state settings had state words seen [] some rest known = (words, refl)
needed_state settings had state words seen (line ∷ more) some rest known =
    let r = request_for settings line in
    let assigned = assigns_for settings line in
    let done = answered state r in
    let next = having had done.answer in
    let back = needed settings next done.state more in
    let at_rest = (line_fits settings.workers state r assigned some rest).0 in
    let rest_of : (words : Words) → Same seen (state_after settings done.state more) (state_after settings (with_both done.state words seen) back) =
    λ words. needed_state settings next done.state words seen more some at_rest (knows had state r rest.sound known) in
    by_need (is_needed had r done.answer) refl rest_of
  where
    by_need : (b : Bool) → is_needed had (request_for settings line) (line_exchange settings state line).answer ≡ b
        → ((words : Words) → Same seen (state_after settings (line_exchange settings state line).state more) (state_after settings (with_both (line_exchange settings state line).state words seen) (needed settings (having had (line_exchange settings state line).answer) (line_exchange settings state line).state more)))
        → Same seen (state_after settings (line_exchange settings state line).state more)
        (state_after settings (with_both state words seen)
        (if b then line ∷ needed settings (having had (line_exchange settings state line).answer) (line_exchange settings state line).state more
        else needed settings (having had (line_exchange settings state line).answer) (line_exchange settings state line).state more))
    by_need true is rest_of =
        let done = line_exchange settings state line in
        let back = needed settings (having had done.answer) done.state more in
        let same = needed_same had state (request_for settings line) words seen is in
        let P : Frontier → Type 0 = λ s. Same seen (state_after settings done.state more) (state_after settings s back) in
        subst P (sym same.1) (rest_of same.0)
    by_need false is rest_of =
        let r = request_for settings line in
        let done = line_exchange settings state line in
        let back = needed settings (having had done.answer) done.state more in
        let same = line_stays had settings.workers state r (assigns_for settings line) some rest known is in
        let P : Frontier → Type 0 = λ s. Same seen (state_after settings done.state more) (state_after settings (with_both s words seen) back) in
        subst P same.1.1 (rest_of words)

-- the state after the lines that are needed: a new session has counted nothing
needed_after : (settings : Settings) (max : ℕ) (lines : List (List ℕ)) → 1 ≤ settings.workers
    → Same (none_seen settings.workers) (state_after settings (start settings.workers max) lines) (state_after settings (start settings.workers max) (needed settings had_none (start settings.workers max) lines))
needed_after settings max lines some = needed_state settings had_none (start settings.workers max) [] (none_seen settings.workers) lines some (starts_at_rest settings.workers max) (λ e. absurd (true≢false (sym e)))

-- the numbers of a session fit in lines
pub numbers_fit : (settings : Settings) (max : ℕ) (lines : List (List ℕ)) → AllFit 0 (state_after settings (start settings.workers max) lines).seen
numbers_fit settings max lines =
    let long = long_after settings max lines in
    record {
      few = omega (arith, long);
      small = λ k inside. small_after settings max lines k (subst (λ n. k < n) long inside);
    }

-- the state after all lines of the compacted log
compacted_after : (settings : Settings) (max : ℕ) (lines : List (List ℕ)) → 1 ≤ settings.workers
    → SameButWords (state_after settings (start settings.workers max) lines) (state_after settings (start settings.workers max) (compacted settings (start settings.workers max) lines))
compacted_after settings max lines some =
    let begun = start settings.workers max in
    let full = state_after settings begun lines in
    let front = needed settings had_none begun lines in
    let back = seen_lines 0 full.seen in
    let same = needed_after settings max lines some in
    let worded = with_words full same.0 in (
      same.0,
      state_after-append settings begun front back
          ∙ ap (λ (s : Frontier). state_after settings s back) same.1
          ∙ ap (λ n. state_after settings (with_seen worded (replicate n 0)) back) (sym (long_after settings max lines))
          ∙ restored settings worded [] full.seen (numbers_fit settings max lines),
    )

pub compacted_holds : (settings : Settings) (max : ℕ) (bytes : List ℕ) → lines (log_text (compacted settings (start settings.workers max) (lines bytes))) ≡ compacted settings (start settings.workers max) (lines bytes)
compacted_holds settings max bytes =
    let begun = start settings.workers max in
    let seen = (state_after settings begun (lines bytes)).seen in
    needed_holds settings had_none begun bytes (seen_lines 0 seen) (lines_whole 0 seen (numbers_fit settings max (lines bytes)))

pub compacted_answers : (settings : Settings) (max : ℕ) (bytes : List ℕ) (more : List (List ℕ)) → 1 ≤ settings.workers
    → answers settings (state_after settings (start settings.workers max) (lines (log_text (compacted settings (start settings.workers max) (lines bytes))))) more ≡ answers settings (state_after settings (start settings.workers max) (lines bytes)) more
compacted_answers settings max bytes more some =
    let begun = start settings.workers max in
    let same = compacted_after settings max (lines bytes) some in
    ap (λ ls. answers settings (state_after settings begun ls) more) (compacted_holds settings max bytes)
    ∙ ap (λ (s : Frontier). answers settings s more) same.1
    ∙ words_forgotten settings (state_after settings begun (lines bytes)) same.0 more
