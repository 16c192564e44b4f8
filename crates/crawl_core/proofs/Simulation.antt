-- A move of what is kept is a step of each state that it may represent.
use Rattle.crawl_core.proofs.Prelude.{eqb-true, unwrap_or, subst, ◌≡◌, ℕ, zero, suc, Bool, true, false, cond, ◌||◌, not, nat_eq, ◌+◌, List, [], ◌∷◌, ◌++◌, map, drop, replicate, slice_get, slice_set, Option, Some, None, refl, sym, ap, ◌∙◌, arith, MatchOption, if◌then◌else◌, AllZip, sum_by, nat_cmp, bytes_eq, is_at, lookup, nat_cmp_total, length-map, length-drop, map-append, drop-append-le, length_push, sum_by-cons, sum_by_push, nat_tests, slice_get_within, Event, Look, Enter, Admit, Back, EndSeeds, Take, Done, Close, Reply, Message, has_url, count_from, Subqueue, unfinished, oldest, next_message, after_accepting, after_taking, after_finishing, GateTurn, new_gate, holds, look, enter, back, end_seeds, close, State, start, Turn, turn, Kept, KeptQueue, empty_queue, outstanding, has_text, has_seen, number_at, Shows, ShowsQueue, Makes}
use Rattle.std.proofs.Math.ListN.{drop_of_length-le}
use Rattle.crawl_core.specs.declared.reply.Reply.TheVariants as says
use Rattle.crawl_core.specs.declared.reply.Refusal.TheVariants as why
use Rattle.crawl_core.specs.Step as step
use Rattle.crawl_core.specs.Moves.{Moves, Move, move, by_gate, admit_to, take_from, take_oldest, done_with, accepting}
use Rattle.crawl_core.proofs.Sets.{lookup-insert_entry}

-- both elements are present and R holds of them, or neither is present
abbrev pub Both : {A B : Type 0} → (A → B → Type 0) → Option A → Option B → Type 0
Both R None None = Unit {0}
Both R (Some a) (Some b) = R a b
Both R None (Some b) = ⊥
Both R (Some a) None = ⊥

pub AllZip-slice_get : {A B : Type 0} (R : A → B → Type 0) (xs : List A) (ys : List B) (i : ℕ) → AllZip R xs ys → Both R (slice_get xs i) (slice_get ys i)
AllZip-slice_get R [] [] i z = tt
AllZip-slice_get R [] (y ∷ ys) i z = absurd z
AllZip-slice_get R (x ∷ xs) [] i z = absurd z
AllZip-slice_get R (x ∷ xs) (y ∷ ys) zero z = z.0
AllZip-slice_get R (x ∷ xs) (y ∷ ys) (suc i) z = AllZip-slice_get R xs ys i z.1

pub AllZip-slice_set : {A B : Type 0} (R : A → B → Type 0) (xs : List A) (ys : List B) (i : ℕ) (x : A) (y : B) → AllZip R xs ys → R x y → AllZip R (slice_set xs i x) (slice_set ys i y)
AllZip-slice_set R [] [] i a b z r = tt
AllZip-slice_set R [] (y ∷ ys) i a b z r = absurd z
AllZip-slice_set R (x ∷ xs) [] i a b z r = absurd z
AllZip-slice_set R (x ∷ xs) (y ∷ ys) zero a b z r = (r, z.1)
AllZip-slice_set R (x ∷ xs) (y ∷ ys) (suc i) a b z r = (z.0, AllZip-slice_set R xs ys i a b z.1 r)

AllZip-replicate : {A B : Type 0} (R : A → B → Type 0) (n : ℕ) (x : A) (y : B) → R x y → AllZip R (replicate n x) (replicate n y)
AllZip-replicate R zero x y r = tt
AllZip-replicate R (suc n) x y r = (r, AllZip-replicate R n x y r)

-- the rest of a list from an index on begins with the element at that index
pub drop-slice_get : {A : Type 0} (xs : List A) (n : ℕ) → MatchOption (slice_get xs n) (drop n xs ≡ []) (λ x. drop n xs ≡ x ∷ drop (suc n) xs)
drop-slice_get {A} [] n = drop_of_length-le {A = A} [] (omega arith)
drop-slice_get (x ∷ xs) zero = refl
drop-slice_get (x ∷ xs) (suc n) = drop-slice_get xs n

-- the kept form of a subqueue has the same number of unfinished URLs as the subqueue
outstanding-unfinished : (kept : KeptQueue) (queue : Subqueue) → ShowsQueue kept queue → outstanding kept ≡ unfinished queue
outstanding-unfinished kept queue shown = grind (arith, length-map, length-drop)

pub sums : (kept : List KeptQueue) (queues : List Subqueue) → AllZip ShowsQueue kept queues → sum_by outstanding kept ≡ sum_by unfinished queues
sums [] [] z = refl
sums [] (q ∷ qs) z = absurd z
sums (k ∷ ks) [] z = absurd z
sums (k ∷ ks) (q ∷ qs) z = let first = outstanding-unfinished k q z.0 in let rest = sums ks qs z.1 in rw (sum_by-cons outstanding k ks, sum_by-cons unfinished q qs) (omega (arith, first, rest))

-- ## The effect of an event on one subqueue

is_at_number : (s sender : ℕ) → is_at (nat_cmp s) sender ≡ nat_eq sender s
is_at_number s sender = grind (arith, nat_tests)

-- the number that is kept for a sender, after one more message from a sender that may be the same one
numbered : (b : Bool) (o : Option ℕ) (n c : ℕ) → unwrap_or o 0 ≡ c → (b ≡ true → n ≡ c) → unwrap_or (cond b (Some (suc n)) o) 0 ≡ c + cond b 1 0
numbered b o n c old same = grind arith

has_url-map : (messages : List Message) (url : List ℕ) → has_text (map (λ m. m.url) messages) url ≡ has_url messages url
has_url-map [] url = refl
has_url-map (m ∷ ms) url = ap (λ b. bytes_eq m.url url || b) (has_url-map ms url)

-- a URL is seen if a message that was accepted has it
seen_shows : (kept : KeptQueue) (queue : Subqueue) (url : List ℕ) → ShowsQueue kept queue → has_seen kept url ≡ has_url queue.accepted url
seen_shows kept queue url shown = ap (λ texts. has_text texts url) shown.seen ∙ has_url-map queue.accepted url

accepted_shows : (kept : KeptQueue) (queue : Subqueue) (url : List ℕ) (sender : ℕ) → ShowsQueue kept queue → ShowsQueue (accepting kept url sender) (after_accepting queue (next_message queue sender url))
accepted_shows kept queue url sender shown =
    let message = next_message queue sender url in
    record {
      waits =
          let past : drop queue.taken (queue.accepted ++ message ∷ []) ≡ drop queue.taken queue.accepted ++ message ∷ [] = drop-append-le queue.taken queue.accepted (message ∷ []) shown.within in
          rw (past, map-append, shown.waits) refl;
      seen = rw (shown.seen, map-append) refl;
      numbers = λ s.
          rw (lookup-insert_entry nat_cmp_total s sender (suc (number_at kept.numbers sender)) kept.numbers, sum_by_push (λ (m : Message). cond (nat_eq m.sender s) 1 0) queue.accepted message, is_at_number s sender)
          (numbered (nat_eq sender s) (lookup (is_at (nat_cmp s)) kept.numbers) (number_at kept.numbers sender) (count_from queue.accepted s) (shown.numbers s) (λ same. shown.numbers sender ∙ ap (count_from queue.accepted) (eqb-true sender s same)));
      busy = shown.busy;
      begun = shown.begun;
      within = rw length_push (omega (arith, shown.within));
    }

taken_shows : (kept : KeptQueue) (queue : Subqueue) (message : Message) → ShowsQueue kept queue → oldest queue ≡ Some message → ShowsQueue (record kept { waiting = map (λ m. m.url) (drop (suc queue.taken) queue.accepted); busy = true }) (after_taking queue)
taken_shows kept queue message shown at = grind (arith, slice_get_within)

pub finished_shows : (kept : KeptQueue) (queue : Subqueue) → ShowsQueue kept queue → ShowsQueue (record kept { busy = false }) (after_finishing queue)
finished_shows kept queue shown = grind arith

-- ## The table

-- a state with these queues instead of its subqueues
abbrev pub keeping : List KeptQueue → State → Kept
keeping queues state = record { gate = state.gate; queues = queues }

-- the move is the step: the same reply, and the kept state is that of the new state
pub record Agrees (made : Move) (done : Turn) : Type 0 where
  pub queues : List KeptQueue
  pub shown : AllZip ShowsQueue queues done.state.subqueues
  pub is_move : made ≡ record { reply = done.reply; kept = keeping queues done.state }

agrees_if : (b : Bool) (made made' : Move) (done done' : Turn) → Agrees made done → Agrees made' done' → Agrees (if b then made else made') (if b then done else done')
agrees_if b made made' done done' first second = grind arith

-- a step that only replies, with the same reply
unchanged : (queues : List KeptQueue) (state : State) → AllZip ShowsQueue queues state.subqueues → (reply : Reply) → Agrees (record { reply = reply; kept = keeping queues state }) (record { reply = reply; state = state })
unchanged queues state shown reply = record { queues = queues; shown = shown; is_move = refl }

-- a step of the gate, which gets the number of unfinished messages
gate_agrees : (queues : List KeptQueue) (state : State) → AllZip ShowsQueue queues state.subqueues → (done : ℕ → GateTurn) → Agrees (by_gate (keeping queues state) (done (sum_by outstanding queues))) (step.by_gate state (done (sum_by unfinished state.subqueues)))
gate_agrees queues state shown done = record { queues = queues; shown = shown; is_move = rw (sums queues state.subqueues shown) refl }

admit_agrees : (queues : List KeptQueue) (state : State) → AllZip ShowsQueue queues state.subqueues → (sender : ℕ) (url : List ℕ) (place : ℕ) (kept : Option KeptQueue) (queue : Option Subqueue) → Both ShowsQueue kept queue → Agrees (admit_to (keeping queues state) sender url place kept) (step.admit_to state sender url place queue)
admit_agrees queues state shown sender url place None None both = unchanged queues state shown (says.Refused why.NoSuch)
admit_agrees queues state shown sender url place None (Some queue) both = absurd both
admit_agrees queues state shown sender url place (Some kept) None both = absurd both
admit_agrees queues state shown sender url place (Some kept) (Some queue) both =
    rw (seen_shows kept queue url both)
    (agrees_if (not (holds state.gate sender)) _ _ _ _ (unchanged queues state shown (says.Refused why.Nothing))
    (agrees_if (has_url queue.accepted url) _ _ _ _ (unchanged queues state shown says.Seen)
    (record {
      queues = slice_set queues place (accepting kept url sender);
      shown = AllZip-slice_set ShowsQueue queues state.subqueues place _ _ shown (accepted_shows kept queue url sender both);
      is_move = rw (both.numbers sender) refl;
    })))

oldest_agrees : (queues : List KeptQueue) (state : State) → AllZip ShowsQueue queues state.subqueues → (place : ℕ) (kept : KeptQueue) (queue : Subqueue) → ShowsQueue kept queue → (message : Option Message) → oldest queue ≡ message → Agrees (take_oldest (keeping queues state) place kept kept.waiting) (step.take_oldest state place queue message)
oldest_agrees queues state shown place kept queue both None at =
    let rest = rw at at (drop-slice_get queue.accepted queue.taken) in
    rw (both.waits, rest) (unchanged queues state shown says.Empty)
oldest_agrees queues state shown place kept queue both (Some message) at =
    let rest = rw at at (drop-slice_get queue.accepted queue.taken) in
    rw (both.waits, rest) (record {
      queues = slice_set queues place (record kept { waiting = map (λ m. m.url) (drop (suc queue.taken) queue.accepted); busy = true });
      shown = AllZip-slice_set ShowsQueue queues state.subqueues place _ _ shown (taken_shows kept queue message both at);
      is_move = refl;
    })

take_agrees : (queues : List KeptQueue) (state : State) → AllZip ShowsQueue queues state.subqueues → (place : ℕ) (kept : Option KeptQueue) (queue : Option Subqueue) → Both ShowsQueue kept queue → Agrees (take_from (keeping queues state) place kept) (step.take_from state place queue)
take_agrees queues state shown place kept queue both = grind (arith, unchanged, agrees_if, oldest_agrees)

done_agrees : (queues : List KeptQueue) (state : State) → AllZip ShowsQueue queues state.subqueues → (place : ℕ) (kept : Option KeptQueue) (queue : Option Subqueue) → Both ShowsQueue kept queue → Agrees (done_with (keeping queues state) place kept) (step.done_with state place queue)
done_agrees queues state shown place None None both = unchanged queues state shown (says.Refused why.NoSuch)
done_agrees queues state shown place None (Some queue) both = absurd both
done_agrees queues state shown place (Some kept) None both = absurd both
done_agrees queues state shown place (Some kept) (Some queue) both = grind (arith, AllZip-slice_set, agrees_if, unchanged, sums)

agrees : (queues : List KeptQueue) (state : State) → AllZip ShowsQueue queues state.subqueues → (event : Event) → Agrees (move (keeping queues state) event) (turn state event)
agrees queues state shown (Look sender) = gate_agrees queues state shown (λ messages. look state.gate messages sender)
agrees queues state shown (Enter sender) = gate_agrees queues state shown (λ messages. enter state.gate messages sender)
agrees queues state shown (Admit sender url place) = admit_agrees queues state shown sender url place (slice_get queues place) (slice_get state.subqueues place) (AllZip-slice_get ShowsQueue queues state.subqueues place shown)
agrees queues state shown (Back sender) = gate_agrees queues state shown (λ messages. back state.gate messages sender)
agrees queues state shown EndSeeds = gate_agrees queues state shown (end_seeds state.gate)
agrees queues state shown (Take place) = take_agrees queues state shown place (slice_get queues place) (slice_get state.subqueues place) (AllZip-slice_get ShowsQueue queues state.subqueues place shown)
agrees queues state shown (Done place) = done_agrees queues state shown place (slice_get queues place) (slice_get state.subqueues place) (AllZip-slice_get ShowsQueue queues state.subqueues place shown)
agrees queues state shown Close = gate_agrees queues state shown (close state.gate)

pub makes : (old : Kept) (event : Event) (reply : Reply) (new : Kept) → Moves old event reply new → Makes old event reply new
makes old event reply new moves = record {
  step = λ state shown.
      let same : old ≡ keeping old.queues state = rw (← shown.gate) refl in
      let P : Kept → Type 0 = λ kept. Agrees (move kept event) (turn state event) in
      let moved = subst P (sym same) (agrees old.queues state shown.queues event) in
      let after : Kept → Type 0 = λ kept. Shows kept (turn state event).state in
      let kept : keeping moved.queues (turn state event).state ≡ new = sym (moves.kept_is ∙ ap (λ m. m.kept) moved.is_move) in (
        (turn state event).state,
        record { reply_is = moves.reply_is ∙ ap (λ m. m.reply) moved.is_move; state_is = refl },
        subst after kept (record { gate = refl; queues = moved.shown }),
      );
}

-- an empty machine shows the first state
pub shows_start : (workers max : ℕ) → Shows (record { gate = new_gate max; queues = replicate workers empty_queue }) (start workers max)
shows_start workers max = grind (arith, AllZip-replicate)
