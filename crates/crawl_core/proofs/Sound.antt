-- The invariants, and that each step keeps them.
use Rattle.crawl_core.proofs.Prelude.{unwrap_or, ◌≡◌, ℕ, zero, suc, ◌+◌, ◌≤◌, Bool, true, false, cond, not, ◌||◌, List, [], ◌∷◌, length, nat_eq, slice_get, Option, Some, None, refl, sym, ap, subst, ◌∙◌, arith, true≢false, Ordering, nat_tests, list_any, list_all, nat_cmp, is_at, insert_entry, insert_key, lookup, remove_entry, nat_list_eq_equiv, take-append-le, length_push, eqb-false, length-remove_key, slice_get_within, Word, Event, Look, Enter, Admit, Back, EndSeeds, Take, Done, Close, Reply, one_if, Message, has_url, Subqueue, empty_subqueue, unfinished, oldest, next_message, after_accepting, after_taking, after_finishing, GateSide, GateTurn, units_out, holds, let_go, same_word, enter_with, close, State, unfinished_in, count_of, word_of, Turn, turn, by_gate, with_subqueue, put, admit_to, take_oldest, take_from, done_with, is_quiet, says_closed, comes_out, comes_back, stated_count, SubqueueInvariant, EachSubqueue}
use Rattle.std.proofs.Math.Seq.{take-length}
use Rattle.crawl_core.specs.declared.reply.Reply.TheVariants as says
use Rattle.crawl_core.specs.declared.reply.Refusal.TheVariants as why
use Rattle.crawl_core.proofs.Places.{sum_at, set_cases, push_cases, length-slice_set}
use Rattle.crawl_core.proofs.Holders.{Rising, Rising-insert_key, Rising-remove_key, RisingKeys, RisingKeys-insert_entry, RisingKeys-remove_entry}
use Rattle.crawl_core.proofs.Effects.{cond_both}

-- what is true of every state of a run, except that the count is at most the maximum
pub record Sound (state : State) : Type 0 where
  pub empty : state.gate.closed ≡ true → count_of state ≡ 0
  pub met : state.gate.closed ≡ false → list_all (λ entry. not entry.1.closed) state.gate.remembered ≡ true
  pub holders : Rising 0 state.gate.holders
  pub words : RisingKeys 0 state.gate.remembered
  pub queues : EachSubqueue SubqueueInvariant state

-- a turn keeps the invariants, the maximum and the number of subqueues, and a closed gate stays closed and quiet; and the
-- number of units changes as the reply reports, and is the number that it reports
pub record GateEffect (old : State) (done : Turn) : Type 0 where
  pub sound : Sound done.state
  pub within : count_of old ≤ old.gate.max → count_of done.state ≤ done.state.gate.max
  pub closes : done.reply ≡ says.Closed → done.state.gate.closed ≡ true
  pub closing : done.state.gate.closed ≡ (old.gate.closed || says_closed done.reply)
  pub stays : old.gate.closed ≡ true → (done.state.gate.closed ≡ true) × (is_quiet done.reply ≡ true)
  pub max : done.state.gate.max ≡ old.gate.max
  pub right_length : length done.state.subqueues ≡ length old.subqueues
  pub units : count_of done.state + cond (comes_back done.reply) 1 0 ≡ count_of old + cond (comes_out done.reply) 1 0
  pub tells : (count : ℕ) → stated_count done.reply ≡ Some count → count_of done.state ≡ count

pub or_nothing : (b : Bool) → b ≡ (b || false)
or_nothing b = grind arith

-- a reply that changes nothing and reports no unit
abbrev is_silent : Reply → Bool
is_silent says.Lost = true
is_silent says.Seen = true
is_silent says.Empty = true
is_silent (says.Refused reason) = true
is_silent _ = false

silent : (state : State) → Sound state → (reply : Reply) → is_silent reply ≡ true → GateEffect state (record { reply = reply; state = state })
silent state sound reply is = grind arith

pub some_is : {A : Type 0} {x y : A} → Some x ≡ Some y → x ≡ y
some_is {A} {x} {y} e = ap (λ o. unwrap_or o x) e

-- ## Words that senders remember

list_all-insert_entry : {X : Type 0} (p : X → Bool) (R : ℕ → ℕ → Ordering) (entries : List (ℕ × X)) (k : ℕ) (v : X) → list_all (λ e. p e.1) entries ≡ true → p v ≡ true → list_all (λ e. p e.1) (insert_entry R entries k v) ≡ true
list_all-insert_entry p R [] k v all here = rw here refl
list_all-insert_entry {X} p R (e ∷ es) k v all here = grind (arith, nat_tests, list_all-insert_entry p R es k)

list_all-remove_entry : {X : Type 0} (p : X → Bool) (test : ℕ → Bool) (entries : List (ℕ × X)) → list_all (λ e. p e.1) entries ≡ true → list_all (λ e. p e.1) (remove_entry test entries) ≡ true
list_all-remove_entry p test [] all = refl
list_all-remove_entry {X} p test (e ∷ es) all = grind (arith, list_all-remove_entry p test es)

-- ## Senders that hold a unit

pub length-insert_key : (holders : List ℕ) (k : ℕ) → list_any (is_at (nat_cmp k)) holders ≡ false → length (insert_key nat_cmp holders k) ≡ suc (length holders)
length-insert_key [] k absent = refl
length-insert_key (x ∷ xs) k absent = grind (arith, nat_tests, length-insert_key xs)

-- a sender that holds a unit is counted
pub holder_counts : (gate : GateSide) (messages sender : ℕ) → holds gate sender ≡ true → units_out (let_go gate sender) messages + 1 ≡ units_out gate messages
holder_counts gate messages sender held = let fewer = length-remove_key (is_at (nat_cmp sender)) gate.holders held in omega (arith, fewer)

-- ## One subqueue of a closed gate

-- no URL is unfinished in it if no unit is held
pub none_unfinished : (state : State) (place : ℕ) (queue : Subqueue) → slice_get state.subqueues place ≡ Some queue → count_of state ≡ 0 → unfinished queue ≡ 0
none_unfinished state place queue at none =
    let sum = sum_at unfinished state.subqueues place queue empty_subqueue at in
    omega (arith, sum, none)

-- ## The gate's turns

-- what a turn that only changes the gate must keep
abbrev GateKeeps : State → GateTurn → Type 0
GateKeeps state done = GateEffect state (by_gate state done)

enter_sound : (state : State) → Sound state → (sender : ℕ) → holds state.gate sender ≡ false → (word : Option Word) → GateKeeps state (enter_with state.gate (unfinished_in state) sender word)
enter_sound state sound sender free None = silent state sound (says.Refused why.Nothing) refl
enter_sound state sound sender free (Some word) =
    cond_both (GateKeeps state) (not (same_word word (word_of state))) _ _
    (λ _. silent state sound says.Lost refl)
    (λ _. cond_both (GateKeeps state) state.gate.closed _ _
    (λ _. silent state sound (says.Refused why.Closed) refl)
    (λ opened. cond_both (GateKeeps state) (nat_eq (count_of state) state.gate.max) _ _
    (λ _. silent state sound (says.Refused why.Full) refl)
    (λ below.
    let one_more = length-insert_key state.gate.holders sender free in
    let apart = eqb-false (count_of state) state.gate.max below in
    record {
      sound = record {
        empty = λ closed. absurd (true≢false (sym closed ∙ opened));
        met = λ _. list_all-remove_entry (λ (w : Word). not w.closed) (is_at (nat_cmp sender)) state.gate.remembered (sound.met opened);
        holders = Rising-insert_key 0 state.gate.holders sender (omega arith) sound.holders;
        words = RisingKeys-remove_entry 0 (is_at (nat_cmp sender)) state.gate.remembered sound.words;
        queues = sound.queues;
      };
      within = λ within. grind (arith, one_more, apart, within);
      closes = λ e. absurd (cc);
      closing = or_nothing state.gate.closed;
      stays = λ closed. absurd (true≢false (sym closed ∙ opened));
      max = refl;
      right_length = refl;
      units = omega (arith, one_more);
      tells = λ count is. let answered_is : suc (count_of state) ≡ count = some_is is in omega (arith, one_more, answered_is);
    })))

-- a turn that gives a unit back: the same state with a smaller count
fewer_sound : (state after : State) → Sound state → count_of after + 1 ≡ count_of state → after.gate.closed ≡ state.gate.closed → after.gate.max ≡ state.gate.max → after.gate.remembered ≡ state.gate.remembered → Rising 0 after.gate.holders → length after.subqueues ≡ length state.subqueues → EachSubqueue SubqueueInvariant after → GateEffect state (record { reply = says.Count (count_of after); state = after })
fewer_sound state after sound fewer closed_is max_is remembered_is holders right_length queues = grind arith

close_sound : (state : State) → Sound state → GateKeeps state (close state.gate (unfinished_in state))
close_sound state sound = grind arith

look_sound : (state : State) → Sound state → (sender : ℕ) → GateEffect state (turn state (Look sender))
look_sound state sound sender = record {
  sound = record {
    empty = sound.empty;
    met = λ opened. list_all-insert_entry (λ (w : Word). not w.closed) nat_cmp state.gate.remembered sender (word_of state) (sound.met opened) (ap not opened);
    holders = sound.holders;
    words = RisingKeys-insert_entry 0 state.gate.remembered sender (word_of state) (omega arith) sound.words;
    queues = sound.queues;
  };
  within = λ within. within;
  closes = λ e. absurd (cc);
  closing = or_nothing state.gate.closed;
  stays = λ closed. (closed, refl);
  max = refl;
  right_length = refl;
  units = refl;
  tells = λ count is. some_is is;
}

-- ## The turns of a subqueue

-- a message that the subqueue has accepted has a different URL than one that it has not accepted
unseen_differs : (accepted : List Message) (url : List ℕ) (i : ℕ) (m : Message) → has_url accepted url ≡ false → slice_get accepted i ≡ Some m → m.url ≡ url → ⊥
unseen_differs [] url i m unseen at same = absurd (cc)
unseen_differs (x ∷ xs) url zero m unseen at same = grind (arith, some_is, nat_list_eq_equiv)
unseen_differs (x ∷ xs) url (suc i) m unseen at same = grind (arith, unseen_differs xs url i m)

accepting_sound : (queue : Subqueue) (sender : ℕ) (url : List ℕ) → has_url queue.accepted url ≡ false → SubqueueInvariant queue → SubqueueInvariant (after_accepting queue (next_message queue sender url))
accepting_sound queue sender url unseen inv = grind (arith, length_push, push_cases, unseen_differs, take-append-le, take-length, slice_get_within)

-- each subqueue after a write at a place
each_after : (state : State) (place : ℕ) (queue next : Subqueue) → slice_get state.subqueues place ≡ Some queue → EachSubqueue SubqueueInvariant state → SubqueueInvariant next → EachSubqueue SubqueueInvariant (with_subqueue state place next)
each_after state place queue next at each inv there =
    set_cases (λ o. (found : Subqueue) → o ≡ Some found → SubqueueInvariant found) state.subqueues place there queue next at
    (λ here was found is. subst SubqueueInvariant (some_is is) inv)
    (λ apart. each there)

put_sound : (state : State) → Sound state → (sender : ℕ) (url : List ℕ) (place : ℕ) (queue : Subqueue) → slice_get state.subqueues place ≡ Some queue → holds state.gate sender ≡ true → has_url queue.accepted url ≡ false → GateEffect state (put state sender url place queue)
put_sound state sound sender url place queue at held unseen =
    let inv = sound.queues place queue at in
    let next : Subqueue = after_accepting queue (next_message queue sender url) in
    let fewer = holder_counts state.gate (unfinished_in state) sender held in
    let sum = sum_at unfinished state.subqueues place queue next at in
    let longer : length next.accepted ≡ length queue.accepted + 1 = length_push queue.accepted (next_message queue sender url) in
    let same : count_of (put state sender url place queue).state ≡ count_of state = omega (arith, fewer, sum, longer, inv.within) in
    record {
      sound = record {
        empty = λ closed. same ∙ sound.empty closed;
        met = sound.met;
        holders = Rising-remove_key 0 (is_at (nat_cmp sender)) state.gate.holders sound.holders;
        words = sound.words;
        queues = each_after state place queue next at sound.queues (accepting_sound queue sender url unseen inv);
      };
      within = λ within. rw same within;
      closes = λ e. absurd (cc);
      closing = or_nothing state.gate.closed;
      stays = λ closed. let none = sound.empty closed in absurd (omega (arith, fewer, none));
      max = refl;
      right_length = length-slice_set state.subqueues place next;
      units = omega (arith, same);
      tells = λ count is. absurd (cc);
    }

admit_sound : (state : State) → Sound state → (sender : ℕ) (url : List ℕ) (place : ℕ) (queue : Option Subqueue) → slice_get state.subqueues place ≡ queue → GateEffect state (admit_to state sender url place queue)
admit_sound state sound sender url place None at = silent state sound (says.Refused why.NoSuch) refl
admit_sound state sound sender url place (Some queue) at =
    by_holder (holds state.gate sender) refl
  where
    by_holder : (b : Bool) → holds state.gate sender ≡ b → GateEffect state (admit_to state sender url place (Some queue))
    by_holder false free = rw free (silent state sound (says.Refused why.Nothing) refl)
    by_holder true held =
        rw held
        (cond_both (GateEffect state) (has_url queue.accepted url) _ _
        (λ _. silent state sound says.Seen refl)
        (λ unseen. put_sound state sound sender url place queue at held unseen))

oldest_sound : (state : State) → Sound state → (place : ℕ) (queue : Subqueue) → slice_get state.subqueues place ≡ Some queue → queue.busy ≡ false → (message : Option Message) → oldest queue ≡ message → GateEffect state (take_oldest state place queue message)
oldest_sound state sound place queue at idle None none = silent state sound says.Empty refl
oldest_sound state sound place queue at idle (Some message) first =
    let inv = sound.queues place queue at in
    let next : Subqueue = after_taking queue in
    let below = slice_get_within queue.accepted queue.taken message first in
    let was_idle : one_if queue.busy ≡ 0 = ap one_if idle in
    let sum = sum_at unfinished state.subqueues place queue next at in
    let same : count_of (with_subqueue state place next) ≡ count_of state = omega (arith, sum, was_idle, below) in
    record {
      sound = record {
        empty = λ closed. same ∙ sound.empty closed;
        met = sound.met;
        holders = sound.holders;
        words = sound.words;
        queues = each_after state place queue next at sound.queues (record { within = omega (arith, below); distinct = inv.distinct; numbered = inv.numbered; begun = omega arith });
      };
      within = λ within. rw same within;
      closes = λ e. absurd (cc);
      closing = or_nothing state.gate.closed;
      stays = λ closed. let none = none_unfinished state place queue at (sound.empty closed) in absurd (omega (arith, none, was_idle, below));
      max = refl;
      right_length = length-slice_set state.subqueues place next;
      units = omega (arith, same);
      tells = λ count is. absurd (cc);
    }

take_sound : (state : State) → Sound state → (place : ℕ) (queue : Option Subqueue) → slice_get state.subqueues place ≡ queue → GateEffect state (take_from state place queue)
take_sound state sound place queue at = grind (arith, silent, cond_both, oldest_sound)

done_sound : (state : State) → Sound state → (place : ℕ) (queue : Option Subqueue) → slice_get state.subqueues place ≡ queue → GateEffect state (done_with state place queue)
done_sound state sound place None at = silent state sound (says.Refused why.NoSuch) refl
done_sound state sound place (Some queue) at =
    cond_both (GateEffect state) queue.busy _ _
    (λ busy.
    let inv = sound.queues place queue at in
    let next : Subqueue = after_finishing queue in
    let was_busy : one_if queue.busy ≡ 1 = ap one_if busy in
    let sum = sum_at unfinished state.subqueues place queue next at in
    let begun : 1 ≤ queue.taken = omega (arith, inv.begun, was_busy) in
    let fewer : count_of (with_subqueue state place next) + 1 ≡ count_of state = omega (arith, sum, was_busy, begun, inv.within) in
    fewer_sound state (with_subqueue state place next) sound fewer refl refl refl sound.holders (length-slice_set state.subqueues place next)
    (each_after state place queue next at sound.queues (record { within = inv.within; distinct = inv.distinct; numbered = inv.numbered; begun = omega arith })))
    (λ _. silent state sound (says.Refused why.Nothing) refl)

-- ## Each event

pub gate_effect : (state : State) → Sound state → (event : Event) → GateEffect state (turn state event)
gate_effect state sound (Look sender) = look_sound state sound sender
gate_effect state sound (Enter sender) =
    cond_both (GateKeeps state) (holds state.gate sender) _ _
    (λ _. silent state sound (says.Refused why.Busy) refl)
    (λ free. enter_sound state sound sender free (lookup (is_at (nat_cmp sender)) state.gate.remembered))
gate_effect state sound (Admit sender url place) = admit_sound state sound sender url place (slice_get state.subqueues place) refl
gate_effect state sound (Back sender) =
    cond_both (GateKeeps state) (holds state.gate sender) _ _
    (λ held. fewer_sound state (record state { gate = let_go state.gate sender }) sound (holder_counts state.gate (unfinished_in state) sender held) refl refl refl (Rising-remove_key 0 (is_at (nat_cmp sender)) state.gate.holders sound.holders) refl sound.queues)
    (λ _. silent state sound (says.Refused why.Nothing) refl)
gate_effect state sound EndSeeds =
    cond_both (GateKeeps state) state.gate.opening _ _
    (λ out. let opened : one_if state.gate.opening ≡ 1 = ap one_if out in fewer_sound state (record state { gate = record state.gate { opening = false } }) sound (omega (arith, opened)) refl refl refl sound.holders refl sound.queues)
    (λ _. silent state sound (says.Refused why.Nothing) refl)
gate_effect state sound (Take place) = take_sound state sound place (slice_get state.subqueues place) refl
gate_effect state sound (Done place) = done_sound state sound place (slice_get state.subqueues place) refl
gate_effect state sound Close = close_sound state sound
