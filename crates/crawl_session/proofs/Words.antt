-- No answer depends on the words that senders remember from before.
use Rattle.crawl_session.proofs.Prelude.{◌≡◌, ℕ, suc, Bool, true, cond, if◌then◌else◌, List, [], ◌∷◌, slice_get, Option, Some, None, Result, Ok, Err, refl, sym, ap, ◌∙◌, arith, nat_tests, is_at, insert_entry, lookup, nat_cmp, nat_cmp_total, Event, Reply, Word, GateSide, GateTurn, back, close, end_seeds, enter, enter_with, holds, remembers, shown_word, Message, in_fetch, can_hand_over, State, count_of, unfinished_in, Turn, turn, admit_to, by_gate, done_with, take_from, take_oldest, Subqueue, oldest, lookup-insert_entry, Answer, Request, Offer, Next, Again, Later, Done, EndSeeds, Seen, Stats, RequestError, Replied, Deferred, Exchange, Outcome, by_machine, client, after, deferring, deferring_taken, ends, admitting, entering, exchange, finishing, handing, is_count, is_due, is_entered, is_seen, is_empty, noted, offering, put_back, replies, retaking, seeds_ended, stats_answer, taking, taking_again, taking_next, request_for, Frontier, deferrals_at, with_deferrals, answered, answers, line_exchange, Settings, stats_for}
use Rattle.crawl_core.specs.declared.event.Event.TheVariants as event
use Rattle.crawl_core.specs.declared.reply.Reply.TheVariants as says
use Rattle.crawl_core.specs.declared.reply.Refusal.TheVariants as why
use Rattle.crawl_session.specs.Exchanges as exchanges
use Rattle.crawl_session.specs.Seen.{seen_with}
use Rattle.crawl_session.specs.Serving as serving
use Rattle.crawl_session.specs.Steps.{with_words}
use Rattle.crawl_session.proofs.Noted.{with_seen}

abbrev pub Words : Type 0
Words = List (ℕ × Word)

abbrev with_words_of : Frontier → Words → Frontier
with_words_of state words = serving.with_words state words

abbrev done_with_it : State → ℕ → Exchange
done_with_it state named = exchanges.done_with state named

-- two exchanges with the same answer, whose states differ only in the gate words that senders remember
pub record Alike (x y : Exchange) : Type 0 where
  pub answer : x.answer ≡ y.answer
  pub words : Words
  pub state : x.state ≡ with_words y.state words

-- likewise for turns, and for turns of the gate
record AlikeTurn (x y : Turn) : Type 0 where
  reply : x.reply ≡ y.reply
  words : Words
  state : x.state ≡ with_words y.state words

record AlikeGate (x y : GateTurn) : Type 0 where
  reply : x.reply ≡ y.reply
  words : Words
  gate : x.gate ≡ record y.gate { remembered = words }

alike_if : (b : Bool) (x y v w : Exchange) → Alike x v → Alike y w → Alike (if b then x else y) (if b then v else w)
alike_if b x y v w first second = grind arith

turn_if : (b : Bool) (x y v w : Turn) → AlikeTurn x v → AlikeTurn y w → AlikeTurn (if b then x else y) (if b then v else w)
turn_if b x y v w first second = grind arith

gate_if : (b : Bool) (x y v w : GateTurn) → AlikeGate x v → AlikeGate y w → AlikeGate (if b then x else y) (if b then v else w)
gate_if b x y v w first second = grind arith

alike_end : (reply : Reply) (state : State) (words : Words) → Alike (ends reply (with_words state words)) (ends reply state)
alike_end reply state words = record { answer = refl; words = words; state = refl }

alike_after : (other state : State) (e : Event) (more : Reply → State → Exchange) → (same : AlikeTurn (turn other e) (turn state e))
    → Alike (more (turn state e).reply (with_words (turn state e).state same.words)) (more (turn state e).reply (turn state e).state) → Alike (after other e more) (after state e more)
alike_after other state e more same rest = grind arith

gate_turn : (state : State) (words : Words) (x y : GateTurn) → AlikeGate x y → AlikeTurn (by_gate (with_words state words) x) (by_gate state y)
gate_turn state words x y same = record { reply = same.reply; words = same.words; state = ap (λ (g : GateSide). record state { gate = g }) same.gate }

-- ---- the gate

abbrev with_gate : GateSide → Words → GateSide
with_gate gate words = record gate { remembered = words }

close_alike : (gate : GateSide) (words : Words) (messages : ℕ) → AlikeGate (close (with_gate gate words) messages) (close gate messages)
close_alike gate words messages = grind (arith, gate_if)

end_alike : (gate : GateSide) (words : Words) (messages : ℕ) → AlikeGate (end_seeds (with_gate gate words) messages) (end_seeds gate messages)
end_alike gate words messages = gate_if gate.opening _ _ _ _ (record { reply = refl; words = words; gate = refl }) (record { reply = refl; words = words; gate = refl })

back_alike : (gate : GateSide) (words : Words) (messages sender : ℕ) → AlikeGate (back (with_gate gate words) messages sender) (back gate messages sender)
back_alike gate words messages sender = gate_if (holds gate sender) _ _ _ _ (record { reply = refl; words = words; gate = refl }) (record { reply = refl; words = words; gate = refl })

with_alike : (gate : GateSide) (words : Words) (messages sender : ℕ) (word : Option Word) → AlikeGate (enter_with (with_gate gate words) messages sender word) (enter_with gate messages sender word)
with_alike gate words messages sender None = record { reply = refl; words = words; gate = refl }
with_alike gate words messages sender (Some word) = grind (arith, nat_tests, gate_if)

-- a sender enters by the word that it read last
enter_alike : (gate : GateSide) (words : Words) (messages sender : ℕ) → remembers (with_gate gate words) sender ≡ remembers gate sender → AlikeGate (enter (with_gate gate words) messages sender) (enter gate messages sender)
enter_alike gate words messages sender same = grind (arith, gate_if, with_alike)

-- ---- the subqueues

oldest_alike : (state : State) (words : Words) (named : ℕ) (queue : Subqueue) (message : Option Message) → AlikeTurn (take_oldest (with_words state words) named queue message) (take_oldest state named queue message)
oldest_alike state words named queue None = record { reply = refl; words = words; state = refl }
oldest_alike state words named queue (Some message) = record { reply = refl; words = words; state = refl }

take_alike : (state : State) (words : Words) (named : ℕ) (queue : Option Subqueue) → AlikeTurn (take_from (with_words state words) named queue) (take_from state named queue)
take_alike state words named None = record { reply = refl; words = words; state = refl }
take_alike state words named (Some queue) = turn_if queue.busy _ _ _ _ (record { reply = refl; words = words; state = refl }) (oldest_alike state words named queue (oldest queue))

done_alike : (state : State) (words : Words) (named : ℕ) (queue : Option Subqueue) → AlikeTurn (done_with (with_words state words) named queue) (done_with state named queue)
done_alike state words named None = record { reply = refl; words = words; state = refl }
done_alike state words named (Some queue) = turn_if queue.busy _ _ _ _ (record { reply = refl; words = words; state = refl }) (record { reply = refl; words = words; state = refl })

admit_alike : (state : State) (words : Words) (url : List ℕ) (named : ℕ) (queue : Option Subqueue) → AlikeTurn (admit_to (with_words state words) client url named queue) (admit_to state client url named queue)
admit_alike state words url named None = record { reply = refl; words = words; state = refl }
admit_alike state words url named (Some queue) = grind (arith, nat_tests, turn_if)

-- ---- requests

admitting_alike : (state : State) (words : Words) (url : List ℕ) (named : ℕ) → Alike (admitting (with_words state words) url named) (admitting state url named)
admitting_alike state words url named =
    let admit = event.Admit client url named in
    let same = admit_alike state words url named (slice_get state.subqueues named) in
    let done = turn state admit in
    let leaving = gate_turn done.state same.words _ _ (back_alike done.state.gate same.words (unfinished_in done.state) client) in
    alike_after (with_words state words) state admit (λ reply admitted. if is_seen reply then after admitted (event.Back client) (λ _ left. ends says.Seen left) else ends reply admitted) same
    (alike_if (is_seen done.reply) _ _ _ _
    (alike_after (with_words done.state same.words) done.state (event.Back client) (λ _ left. ends says.Seen left) leaving (alike_end says.Seen (turn done.state (event.Back client)).state leaving.words))
    (alike_end done.reply done.state same.words))

entering_alike : (state : State) (words : Words) (url : List ℕ) (named : ℕ) → remembers (with_gate state.gate words) client ≡ remembers state.gate client → Alike (entering (with_words state words) url named) (entering state url named)
entering_alike state words url named known =
    let same = gate_turn state words _ _ (enter_alike state.gate words (unfinished_in state) client known) in
    let done = turn state (event.Enter client) in
    alike_after (with_words state words) state (event.Enter client) (λ reply entered. if is_entered reply then admitting entered url named else ends reply entered) same
    (alike_if (is_entered done.reply) _ _ _ _ (admitting_alike done.state same.words url named) (alike_end done.reply done.state same.words))

offering_alike : (state : State) (words : Words) (url : List ℕ) (named : ℕ) → Alike (offering (with_words state words) url named) (offering state url named)
offering_alike state words url named =
    let word = shown_word state.gate (unfinished_in state) in
    let own = insert_entry nat_cmp words client word in
    let known = lookup-insert_entry nat_cmp_total client client word words ∙ sym (lookup-insert_entry nat_cmp_total client client word state.gate.remembered) in
    alike_after (with_words state words) state (event.Look client) (λ _ looked. entering looked url named) (record { reply = refl; words = own; state = refl })
    (entering_alike (turn state (event.Look client)).state own url named known)

taking_alike : (state : State) (words : Words) (named : ℕ) → Alike (taking (with_words state words) named) (taking state named)
taking_alike state words named =
    let same = take_alike state words named (slice_get state.subqueues named) in
    let done = turn state (event.Take named) in
    let closing = gate_turn done.state same.words _ _ (close_alike done.state.gate same.words (unfinished_in done.state)) in
    let closed = turn done.state event.Close in
    alike_after (with_words state words) state (event.Take named) (λ reply taken. if is_empty reply then after taken event.Close ends else ends reply taken) same
    (alike_if (is_empty done.reply) _ _ _ _
    (alike_after (with_words done.state same.words) done.state event.Close ends closing (alike_end closed.reply closed.state closing.words))
    (alike_end done.reply done.state same.words))

done_exchange_alike : (state : State) (words : Words) (named : ℕ) → Alike (done_with_it (with_words state words) named) (done_with_it state named)
done_exchange_alike state words named =
    let same = done_alike state words named (slice_get state.subqueues named) in
    let done = turn state (event.Done named) in
    alike_after (with_words state words) state (event.Done named) ends same (alike_end done.reply done.state same.words)

seeds_alike : (state : State) (words : Words) → Alike (seeds_ended (with_words state words)) (seeds_ended state)
seeds_alike state words =
    let same = gate_turn state words _ _ (end_alike state.gate words (unfinished_in state)) in
    let done = turn state event.EndSeeds in
    alike_after (with_words state words) state event.EndSeeds ends same (alike_end done.reply done.state same.words)

is_at_self : (sender : ℕ) → is_at (nat_cmp sender) sender ≡ true
is_at_self sender = grind (arith, nat_tests)

-- a word that was just read is remembered, whatever was before
read_alike : (sender : ℕ) (word : Word) (words others : Words) → lookup (is_at (nat_cmp sender)) (insert_entry nat_cmp words sender word) ≡ lookup (is_at (nat_cmp sender)) (insert_entry nat_cmp others sender word)
read_alike sender word words others =
    lookup-insert_entry nat_cmp_total sender sender word words
    ∙ ap (λ b. cond b (Some word) (lookup (is_at (nat_cmp sender)) words)) (is_at_self sender)
    ∙ sym (ap (λ b. cond b (Some word) (lookup (is_at (nat_cmp sender)) others)) (is_at_self sender))
    ∙ sym (lookup-insert_entry nat_cmp_total sender sender word others)

handing_alike : (state : State) (words : Words) (named sender : ℕ) → Alike (handing (with_words state words) named sender) (handing state named sender)
handing_alike state words named sender =
    let count = says.Count (count_of state) in
    let same = done_alike state words named (slice_get state.subqueues named) in
    let done = turn state (event.Done named) in
    let word = shown_word done.state.gate (unfinished_in done.state) in
    let own = insert_entry nat_cmp same.words sender word in
    let looked = turn done.state (event.Look sender) in
    let known = read_alike sender word same.words done.state.gate.remembered in
    let entering = gate_turn looked.state own _ _ (enter_alike looked.state.gate own (unfinished_in looked.state) sender known) in
    let inside = turn looked.state (event.Enter sender) in
    alike_after (with_words state words) state (event.Done named) (λ _ freed. after freed (event.Look sender) (λ _ seen. after seen (event.Enter sender) (λ _ entered. ends count entered))) same
    (alike_after (with_words done.state same.words) done.state (event.Look sender) (λ _ seen. after seen (event.Enter sender) (λ _ entered. ends count entered)) (record { reply = refl; words = own; state = refl })
    (alike_after (with_words looked.state own) looked.state (event.Enter sender) (λ _ entered. ends count entered) entering (alike_end count inside.state entering.words)))

-- ---- what comes of a request

-- two outcomes with the same answer, whose states differ only in the gate words that senders remember
pub record AlikeOutcome (x y : Outcome) : Type 0 where
  pub answer : x.answer ≡ y.answer
  pub words : Words
  pub state : x.state ≡ with_words_of y.state words

machine_alike : (frontier : Frontier) (words : Words) (x y : Exchange) → Alike x y → AlikeOutcome (by_machine (with_words_of frontier words) x) (by_machine frontier y)
machine_alike frontier words x y alike = record { answer = alike.answer; words = alike.words; state = ap (λ (s : State). record frontier { machine = s }) alike.state }

-- the answers are the same, and so are the numbers of `seen` after them
noted_alike : (named : ℕ) (x y : Outcome) → AlikeOutcome x y → AlikeOutcome (noted named x) (noted named y)
noted_alike named x y alike = record {
  answer = alike.answer;
  words = alike.words;
  state =
      ap (λ (a : Answer). with_seen x.state (seen_with named a x.state.seen)) alike.answer
      ∙ ap (λ (s : Frontier). with_seen s (seen_with named y.answer s.seen)) alike.state;
}

outcome_if : (b : Bool) (x y v w : Outcome) → AlikeOutcome x v → AlikeOutcome y w → AlikeOutcome (if b then x else y) (if b then v else w)
outcome_if b x y v w first second = grind arith

still_alike : (reply : Reply) (frontier : Frontier) (words : Words) → AlikeOutcome (replies reply (with_words_of frontier words)) (replies reply frontier)
still_alike reply frontier words = record { answer = refl; words = words; state = refl }

retaking_alike : (frontier : Frontier) (words : Words) (named : ℕ) (waiting : List Deferred) → AlikeOutcome (retaking (with_words_of frontier words) named waiting) (retaking frontier named waiting)
retaking_alike frontier words named [] = still_alike (says.Refused why.Busy) frontier words
retaking_alike frontier words named (first ∷ more) = record { answer = refl; words = words; state = refl }

next_alike : (frontier : Frontier) (words : Words) (named : ℕ) (waiting : List Deferred) (fetched : Option Deferred) → AlikeOutcome (taking_next (with_words_of frontier words) named waiting fetched) (taking_next frontier named waiting fetched)
next_alike frontier words named waiting (Some url) = still_alike (says.Refused why.Busy) frontier words
next_alike frontier words named waiting None =
    outcome_if (is_due (slice_get frontier.machine.subqueues named) waiting) _ _ _ _ (retaking_alike frontier words named waiting)
    (machine_alike frontier words (taking (with_words frontier.machine words) named) (taking frontier.machine named) (taking_alike frontier.machine words named))

again_alike : (frontier : Frontier) (words : Words) (named : ℕ) (fetched : Option Deferred) → AlikeOutcome (taking_again (with_words_of frontier words) named fetched) (taking_again frontier named fetched)
again_alike frontier words named None = record { answer = refl; words = words; state = refl }
again_alike frontier words named (Some url) = still_alike (says.Taken url.url) frontier words

-- the state once the sender's unit came back, or did not
freed : Frontier → ℕ → Reply → State → Frontier
freed frontier named reply state =
    let left : Frontier = record frontier { machine = state } in
    if is_count reply then with_deferrals left named (record { waiting = (deferrals_at frontier named).waiting; fetched = None }) else left

freed_alike : (frontier : Frontier) (named : ℕ) (reply : Reply) (state : State) (words : Words) → freed frontier named reply (with_words state words) ≡ with_words_of (freed frontier named reply state) words
unfolding freed
freed_alike frontier named reply state words = grind arith

finishing_alike : (frontier : Frontier) (words : Words) (named : ℕ) (fetched : Option Deferred) → AlikeOutcome (finishing (with_words_of frontier words) named fetched) (finishing frontier named fetched)
unfolding freed
finishing_alike frontier words named None = machine_alike frontier words (done_with_it (with_words frontier.machine words) named) (done_with_it frontier.machine named) (done_exchange_alike frontier.machine words named)
finishing_alike frontier words named (Some url) =
    let same = gate_turn frontier.machine words _ _ (back_alike frontier.machine.gate words (unfinished_in frontier.machine) url.sender) in
    let done = turn frontier.machine (event.Back url.sender) in
    let other = turn (with_words frontier.machine words) (event.Back url.sender) in
    record {
      answer = ap Replied same.reply;
      words = same.words;
      state = ap (λ r. freed frontier named r other.state) same.reply ∙ ap (freed frontier named done.reply) same.state ∙ freed_alike frontier named done.reply done.state same.words;
    }

taken_alike : (frontier : Frontier) (words : Words) (named : ℕ) (found : Option (Option (List ℕ))) → AlikeOutcome (deferring_taken (with_words_of frontier words) named found) (deferring_taken frontier named found)
taken_alike frontier words named None = still_alike (says.Refused why.NoSuch) frontier words
taken_alike frontier words named (Some None) = still_alike (says.Refused why.Nothing) frontier words
taken_alike frontier words named (Some (Some url)) =
    let sender = suc frontier.senders in
    let put : Frontier = record (put_back frontier named url sender) { senders = sender } in
    outcome_if (can_hand_over frontier.machine named sender) _ _ _ _
    (machine_alike put words (handing (with_words frontier.machine words) named sender) (handing frontier.machine named sender) (handing_alike frontier.machine words named sender))
    (still_alike (says.Refused why.Nothing) frontier words)

deferring_alike : (frontier : Frontier) (words : Words) (named : ℕ) (fetched : Option Deferred) → AlikeOutcome (deferring (with_words_of frontier words) named fetched) (deferring frontier named fetched)
deferring_alike frontier words named None = taken_alike frontier words named (in_fetch frontier.machine named)
deferring_alike frontier words named (Some url) = record { answer = refl; words = words; state = refl }

stats_alike : (frontier : Frontier) (words : Words) (queue : Option ℕ) → stats_for (with_words_of frontier words) queue ≡ stats_for frontier queue
stats_alike frontier words queue = grind arith

exchange_alike : (frontier : Frontier) (words : Words) (request : Request) → AlikeOutcome (exchange (with_words_of frontier words) request) (exchange frontier request)
exchange_alike frontier words (Offer url named) =
    noted_alike named (by_machine (with_words_of frontier words) (offering (with_words frontier.machine words) url named)) (by_machine frontier (offering frontier.machine url named))
    (machine_alike frontier words (offering (with_words frontier.machine words) url named) (offering frontier.machine url named) (offering_alike frontier.machine words url named))
exchange_alike frontier words (Next named) = next_alike frontier words named (deferrals_at frontier named).waiting (deferrals_at frontier named).fetched
exchange_alike frontier words (Again named) = again_alike frontier words named (deferrals_at frontier named).fetched
exchange_alike frontier words (Later named) = deferring_alike frontier words named (deferrals_at frontier named).fetched
exchange_alike frontier words (Done named) = finishing_alike frontier words named (deferrals_at frontier named).fetched
exchange_alike frontier words (Seen named count) = record { answer = refl; words = words; state = refl }
exchange_alike frontier words (Stats queue) = record { answer = ap stats_answer (stats_alike frontier words queue); words = words; state = refl }
exchange_alike frontier words EndSeeds = machine_alike frontier words (seeds_ended (with_words frontier.machine words)) (seeds_ended frontier.machine) (seeds_alike frontier.machine words)

-- ---- lines

pub answered_alike : (frontier : Frontier) (words : Words) (line_answers : Result Request RequestError) → AlikeOutcome (answered (with_words_of frontier words) line_answers) (answered frontier line_answers)
answered_alike frontier words (Ok request) = exchange_alike frontier words request
answered_alike frontier words (Err why) = record { answer = refl; words = words; state = refl }

pub words_forgotten : (settings : Settings) (state : Frontier) (words : List (ℕ × Word)) (lines : List (List ℕ)) → answers settings (with_words_of state words) lines ≡ answers settings state lines
words_forgotten settings state words [] = refl
words_forgotten settings state words (line ∷ more) =
    let other = line_exchange settings (with_words_of state words) line in
    let own = line_exchange settings state line in
    let here = answered_alike state words (request_for settings line) in
    ap (λ a. a ∷ answers settings other.state more) here.answer
    ∙ ap (λ l. own.answer ∷ l) (ap (λ (s : Frontier). answers settings s more) here.state ∙ words_forgotten settings own.state here.words more)
