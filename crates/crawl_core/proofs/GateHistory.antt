-- What a run's history states about the opening unit and about the senders that hold a unit.
use Rattle.crawl_core.proofs.Prelude.{◌≡◌, ℕ, suc, Bool, true, false, not, ◌||◌, ◌&&◌, List, [], ◌∷◌, nat_eq, fold, slice_get, Option, Some, None, refl, ap, ◌∙◌, arith, eqb-true, if◌then◌else◌, list_any, nat_cmp, is_at, lookup, remove_entry, remove_key, nat_cmp_total, eqb-false, nat_tests, Word, Event, Look, Enter, Admit, Back, EndSeeds, Take, Done, Close, Reply, Subqueue, GateTurn, holds, remembers, same_word, enter_with, State, start, count_of, word_of, unfinished_in, Turn, turn, by_gate, admit_to, take_from, done_with, Run, ends_seeds, was_ended, holds_after, has_unit, word_after, last_word}
use Rattle.crawl_core.proofs.Sets.{list_any-insert_key, lookup-insert_entry}
use Rattle.crawl_core.proofs.Holders.{Rising, RisingKeys, lower, lower_keys}
use Rattle.crawl_core.proofs.Effects.{cond_both}
use Rattle.crawl_core.proofs.Sound.{Sound, gate_effect}
use Rattle.crawl_core.proofs.RunParts.{start_sound}

-- ## Numbers that are inserted and removed

is_at_number : (q x : ℕ) → is_at (nat_cmp q) x ≡ nat_eq x q
is_at_number q x = grind (arith, nat_tests)

apart_at : (q x : ℕ) → (x ≡ q → ⊥) → is_at (nat_cmp q) x ≡ false
apart_at q x apart = grind arith

none_at : (q : ℕ) (xs : List ℕ) → Rising (suc q) xs → list_any (is_at (nat_cmp q)) xs ≡ false
none_at q [] rising = refl
none_at q (x ∷ xs) rising = grind (arith, lower, apart_at, none_at q xs)

-- a number that was removed is no longer in the list
taken_out : (least k : ℕ) (xs : List ℕ) → Rising least xs → list_any (is_at (nat_cmp k)) (remove_key (is_at (nat_cmp k)) xs) ≡ false
taken_out least k [] rising = refl
taken_out least k (x ∷ xs) rising = grind (arith, eqb-true, is_at_number, none_at, taken_out (suc x) k xs rising.1)

-- and every other number stays in it
pub others_stay : (q k : ℕ) (xs : List ℕ) → (k ≡ q → ⊥) → list_any (is_at (nat_cmp q)) (remove_key (is_at (nat_cmp k)) xs) ≡ list_any (is_at (nat_cmp q)) xs
others_stay q k [] apart = refl
others_stay q k (x ∷ xs) apart = grind (arith, eqb-true, is_at_number, apart_at, others_stay q k xs apart)

pub holds_less : (xs : List ℕ) (k q : ℕ) → Rising 0 xs → list_any (is_at (nat_cmp q)) (remove_key (is_at (nat_cmp k)) xs) ≡ (if nat_eq k q then false else list_any (is_at (nat_cmp q)) xs)
holds_less xs k q rising = grind (arith, eqb-true, taken_out, others_stay, eqb-false)

word_none : {X : Type 0} (q : ℕ) (es : List (ℕ × X)) → RisingKeys (suc q) es → lookup (is_at (nat_cmp q)) es ≡ None
word_none q [] rising = refl
word_none q (e ∷ es) rising = grind (arith, lower_keys, apart_at, word_none q es)

word_taken_out : {X : Type 0} (least k : ℕ) (es : List (ℕ × X)) → RisingKeys least es → lookup (is_at (nat_cmp k)) (remove_entry (is_at (nat_cmp k)) es) ≡ None
word_taken_out least k [] rising = refl
word_taken_out {X} least k (e ∷ es) rising = grind (arith, eqb-true, is_at_number, word_none, word_taken_out (suc e.0) k es rising.1)

other_words_stay : {X : Type 0} (q k : ℕ) (es : List (ℕ × X)) → (k ≡ q → ⊥) → lookup (is_at (nat_cmp q)) (remove_entry (is_at (nat_cmp k)) es) ≡ lookup (is_at (nat_cmp q)) es
other_words_stay q k [] apart = refl
other_words_stay {X} q k (e ∷ es) apart = grind (arith, eqb-true, is_at_number, apart_at, other_words_stay q k es apart)

words_less : {X : Type 0} (es : List (ℕ × X)) (k q : ℕ) → RisingKeys 0 es → lookup (is_at (nat_cmp q)) (remove_entry (is_at (nat_cmp k)) es) ≡ (if nat_eq k q then None else lookup (is_at (nat_cmp q)) es)
words_less {X} es k q rising = grind (arith, eqb-true, word_taken_out, other_words_stay, eqb-false)

or_cond : (b held : Bool) → (b || held) ≡ (if b then true else held)
or_cond b held = grind arith

-- ## Each event

-- the opening unit and the holders after a turn, by the reply
pub record Held (old : State) (event : Event) (done : Turn) : Type 0 where
  pub opening : done.state.gate.opening ≡ (old.gate.opening && not (ends_seeds event done.reply))
  pub holders : (sender : ℕ) → holds done.state.gate sender ≡ holds_after sender (holds old.gate sender) event done.reply
  pub words : (sender : ℕ) → remembers done.state.gate sender ≡ word_after sender (remembers old.gate sender) event done.reply

and_all : (b : Bool) → b ≡ (b && true)
and_all b = grind arith

and_none : (b : Bool) → false ≡ (b && false)
and_none b = grind arith

-- if the gate's half does not change, and the reply reports no unit
same_gate : (old : State) (event : Event) (done : Turn) → done.state.gate ≡ old.gate → ends_seeds event done.reply ≡ false → ((sender : ℕ) (held : Bool) → holds_after sender held event done.reply ≡ held) → ((sender : ℕ) (word : Option Word) → word_after sender word event done.reply ≡ word) → Held old event done
same_gate old event done same going still silent = grind arith

enter_held : (state : State) → Sound state → (who : ℕ) (word : Option Word) → Held state (Enter who) (by_gate state (enter_with state.gate (unfinished_in state) who word))
enter_held state sound who None = same_gate state (Enter who) _ refl refl (λ sender held. refl) (λ sender word. refl)
enter_held state sound who (Some word) =
    let P : GateTurn → Type 0 = λ t. Held state (Enter who) (by_gate state t) in
    cond_both P (not (same_word word (word_of state))) _ _ (λ _. same_gate state (Enter who) _ refl refl (λ sender held. refl) (λ sender word. refl))
    (λ _. cond_both P state.gate.closed _ _ (λ _. same_gate state (Enter who) _ refl refl (λ sender held. refl) (λ sender word. refl))
    (λ _. cond_both P (nat_eq (count_of state) state.gate.max) _ _ (λ _. same_gate state (Enter who) _ refl refl (λ sender held. refl) (λ sender word. refl))
    (λ _. record {
      opening = and_all state.gate.opening;
      holders = λ sender. list_any-insert_key nat_cmp_total sender who state.gate.holders ∙ ap (λ b. b || holds state.gate sender) (is_at_number sender who) ∙ or_cond (nat_eq who sender) (holds state.gate sender);
      words = λ sender. words_less state.gate.remembered who sender sound.words;
    })))

admit_held : (state : State) → Sound state → (who place : ℕ) (url : List ℕ) (o : Option Subqueue) → Held state (Admit who url place) (admit_to state who url place o)
admit_held state sound who place url o = grind (arith, same_gate, cond_both, and_all, holds_less)

take_held : (state : State) (place : ℕ) (o : Option Subqueue) → Held state (Take place) (take_from state place o)
take_held state place o = grind arith

done_held : (state : State) (place : ℕ) (o : Option Subqueue) → Held state (Done place) (done_with state place o)
done_held state place o = grind arith

pub held : (state : State) → Sound state → (event : Event) → Held state event (turn state event)
held state sound (Look who) = record {
  opening = and_all state.gate.opening;
  holders = λ sender. refl;
  words = λ sender. lookup-insert_entry nat_cmp_total sender who (word_of state) state.gate.remembered ∙ ap (λ b. if b then Some (word_of state) else remembers state.gate sender) (is_at_number sender who);
}
held state sound (Enter who) =
    cond_both (λ (t : GateTurn). Held state (Enter who) (by_gate state t)) (holds state.gate who) _ _
    (λ _. same_gate state (Enter who) _ refl refl (λ sender held. refl) (λ sender word. refl))
    (λ _. enter_held state sound who (remembers state.gate who))
held state sound (Admit who url place) = admit_held state sound who place url (slice_get state.subqueues place)
held state sound (Back who) =
    cond_both (λ (t : GateTurn). Held state (Back who) (by_gate state t)) (holds state.gate who) _ _
    (λ _. record { opening = and_all state.gate.opening; holders = λ sender. holds_less state.gate.holders who sender sound.holders; words = λ sender. refl })
    (λ _. same_gate state (Back who) _ refl refl (λ sender held. refl) (λ sender word. refl))
held state sound EndSeeds =
    cond_both (λ (t : GateTurn). Held state EndSeeds (by_gate state t)) state.gate.opening _ _
    (λ _. record { opening = and_none state.gate.opening; holders = λ sender. refl; words = λ sender. refl })
    (λ _. same_gate state EndSeeds _ refl refl (λ sender held. refl) (λ sender word. refl))
held state sound (Take place) = take_held state place (slice_get state.subqueues place)
held state sound (Done place) = done_held state place (slice_get state.subqueues place)
held state sound Close =
    cond_both (λ (t : GateTurn). Held state Close (by_gate state t)) (state.gate.closed || nat_eq (count_of state) 0) _ _
    (λ _. record { opening = and_all state.gate.opening; holders = λ sender. refl; words = λ sender. refl })
    (λ _. same_gate state Close _ refl refl (λ sender held. refl) (λ sender word. refl))

-- ## Runs

and_not : (a b c : Bool) → ((a && not b) && not c) ≡ (a && not (b || c))
and_not a b c = grind arith

run_opening : (old : State) (history : List (Event × Reply)) (new : State) → Sound old → Run old history new → new.gate.opening ≡ (old.gate.opening && not (was_ended history))
run_opening old [] new sound run = rw run (and_all old.gate.opening)
run_opening old (x ∷ xs) new sound run = grind (arith, gate_effect, held, and_not, run_opening run.0 xs new)

run_holders : (sender : ℕ) (old : State) (history : List (Event × Reply)) (new : State) → Sound old → Run old history new → holds new.gate sender ≡ fold (λ held (x : Event × Reply). holds_after sender held x.0 x.1) (holds old.gate sender) history
run_holders sender old [] new sound run = rw run refl
run_holders sender old (x ∷ xs) new sound run = grind (arith, gate_effect, held, run_holders sender run.0 xs new)

pub opening_of : (workers max : ℕ) (history : List (Event × Reply)) (state : State) → Run (start workers max) history state → state.gate.opening ≡ not (was_ended history)
opening_of workers max history state run = run_opening (start workers max) history state (start_sound workers max) run

pub holders_of : (workers max : ℕ) (history : List (Event × Reply)) (state : State) → Run (start workers max) history state → (sender : ℕ) → holds state.gate sender ≡ has_unit history sender
holders_of workers max history state run sender = run_holders sender (start workers max) history state (start_sound workers max) run

run_words : (sender : ℕ) (old : State) (history : List (Event × Reply)) (new : State) → Sound old → Run old history new → remembers new.gate sender ≡ fold (λ word (x : Event × Reply). word_after sender word x.0 x.1) (remembers old.gate sender) history
run_words sender old [] new sound run = rw run refl
run_words sender old (x ∷ xs) new sound run = grind (arith, gate_effect, held, run_words sender run.0 xs new)

pub words_of : (workers max : ℕ) (history : List (Event × Reply)) (state : State) → Run (start workers max) history state → (sender : ℕ) → remembers state.gate sender ≡ last_word history sender
words_of workers max history state run sender = run_words sender (start workers max) history state (start_sound workers max) run
