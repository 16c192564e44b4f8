-- From the steps of the machine to what comes of a request.
use Rattle.crawl_session.proofs.Prelude.{◌≡◌, ◌⊎◌, inl, inr, Bool, true, false, if◌then◌else◌, List, [], ◌∷◌, Option, Result, IfOk, OnErr, refl, sym, ap, subst, ◌∙◌, true≢false, ℕ, arith, nat_tests, is_at, list_any, remove_entry, nat_cmp, nat_cmp_total, Event, Reply, Word, GateSide, GateTurn, back, enter, enter_with, grant, holds, let_go, remembers, turned_away, Kept, State, unfinished_in, turn, list_any-insert_key, client, is_entered}
use Rattle.std.specs.declared.alloc.AllocError.{AllocError}
use Rattle.std.specs.BTreeSet.{insert_key}
use Rattle.std.specs.Result.{IsOk}
use Rattle.std.specs.Set.{remove_key}
use Rattle.crawl_core.specs.declared.event.Event.TheVariants.{Look, Enter, Back}
use Rattle.crawl_core.specs.declared.reply.Refusal.TheVariants as why
use Rattle.crawl_core.specs.GateSide as gate_side
use Rattle.crawl_core.specs.Shows.{Shows, Makes}
use Rattle.crawl_session.specs.Steps.{Leads, GoesBack, GivenUp, GivesUp, returned}

-- ---- out of memory

pub leads : (old : Kept) (e : Event) (reply : Reply) (new : Kept) → Makes old e reply new → Leads old e new
leads old e reply new makes state shown = let made = makes.step state shown in subst (λ (s : State). Shows new s) made.1.state_is made.2

-- a call that needs no memory is not refused
pub never_refused : {X E : Type 0} (result : Result X E) (A : Type 0) → IsOk result → OnErr result A
never_refused result A ok = grind arith

pub gave_back : (old : Kept) (result : Result Reply AllocError) (new : Kept) → IfOk result (λ reply. Makes old (Back client) reply new) → IsOk result → Leads old (Back client) new
gave_back old result new makes ok = grind arith

-- nothing happened
pub gives_up_immediately : (old new : Kept) → new ≡ old → GivesUp old new
gives_up_immediately old new same state shown = record {
  history = [];
  next = state;
  run = refl;
  events = inl refl;
  words = state.gate.remembered;
  same = refl;
  shows = subst (λ (kept : Kept). Shows kept state) (sym same) shown;
}

-- the client has not entered, or its unit went back
pub goes_back_immediately : (old new : Kept) → new ≡ old → GoesBack old new
goes_back_immediately old new same state shown = inl (subst (λ (kept : Kept). Shows kept state) (sym same) shown)

-- an entry that is granted
record Granted (gate : GateSide) (messages : ℕ) (done : GateTurn) : Type 0 where
  same : is_entered done.reply ≡ true → done.gate ≡ (grant gate messages client).gate

granted : (gate : GateSide) (messages : ℕ) (word : Option Word) → Granted gate messages (enter_with gate messages client word)
granted gate messages word = grind arith

-- the client goes out of the holders as it came in
back_out : (ks : List ℕ) → list_any (is_at (nat_cmp client)) ks ≡ false → remove_key (is_at (nat_cmp client)) (insert_key nat_cmp ks client) ≡ ks
back_out [] free = refl
back_out (x ∷ xs) free = grind (arith, nat_tests, back_out xs, true≢false)

-- the gate after an entry and the return
pub returned_gate : (gate : GateSide) (before following : ℕ) → is_entered (enter gate before client).reply ≡ true
    → (back (enter gate before client).gate following client).gate ≡ record gate { remembered = remove_entry (is_at (nat_cmp client)) gate.remembered }
returned_gate gate before following = by_hold (holds gate client) refl
  where
    by_hold : (b : Bool) → holds gate client ≡ b → is_entered (if b then turned_away gate why.Busy else enter_with gate before client (remembers gate client)).reply ≡ true
        → (back (if b then turned_away gate why.Busy else enter_with gate before client (remembers gate client)).gate following client).gate ≡ record gate { remembered = remove_entry (is_at (nat_cmp client)) gate.remembered }
    by_hold true is entered = absurd (true≢false (sym entered))
    by_hold false free entered =
        let inside = (grant gate before client).gate in
        let held : holds inside client ≡ true = list_any-insert_key nat_cmp_total client client gate.holders in
        ap (λ (g : GateSide). (back g following client).gate) ((granted gate before (remembers gate client)).same entered)
        ∙ ap (λ b. (if b then gate_side.gave_back (let_go inside client) following else turned_away inside why.Nothing).gate) held
        ∙ ap (λ (hs : List ℕ). record inside { holders = hs }) (back_out gate.holders free)

-- of an offer there was a look, and an entry and the return, or no entry
abbrev pub looked : State → State
looked state = (turn state (Look client)).state

after_look : (state : State) (new : Kept) → Shows new (looked state) → GivenUp state new
after_look state new shows = record {
  history = (Look client, (turn state (Look client)).reply) ∷ [];
  next = looked state;
  run = (looked state, record { reply_is = refl; state_is = refl }, refl);
  events = inr (inl refl);
  words = (looked state).gate.remembered;
  same = refl;
  shows = shows;
}

after_return : (state : State) (new : Kept) → is_entered (turn (looked state) (Enter client)).reply ≡ true → Shows new (returned (looked state)) → GivenUp state new
after_return state new entered shows =
    let inside = turn (looked state) (Enter client) in
    let out = turn inside.state (Back client) in
    record {
      history = (Look client, (turn state (Look client)).reply) ∷ (Enter client, inside.reply) ∷ (Back client, out.reply) ∷ [];
      next = returned (looked state);
      run = (looked state, record { reply_is = refl; state_is = refl }, (inside.state, record { reply_is = refl; state_is = refl }, (out.state, record { reply_is = refl; state_is = refl }, refl)));
      events = inr (inr refl);
      words = remove_entry (is_at (nat_cmp client)) (looked state).gate.remembered;
      same = ap (λ (g : GateSide). record state { gate = g }) (returned_gate (looked state).gate (unfinished_in (looked state)) (unfinished_in inside.state) entered);
      shows = shows;
    }

by_end : (state : State) (new : Kept) → Shows new (looked state) ⊎ ((is_entered (turn (looked state) (Enter client)).reply ≡ true) × Shows new (returned (looked state))) → GivenUp state new
by_end state new shown = grind (arith, after_look, after_return)

pub gives_up_looking : {X E : Type 0} (old : Kept) (reply : Reply) (mid : Kept) (result : Result X E) (new : Kept) → Makes old (Look client) reply mid → OnErr result (GoesBack mid new) → OnErr result (GivesUp old new)
gives_up_looking old reply mid result new makes more = grind (arith, by_end, leads)
