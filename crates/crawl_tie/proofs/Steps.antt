-- Each atomic step is the machine's events, so the machine has a run for each history.
use Rattle.crawl_tie.proofs.Prelude.{◌≡◌, ◌≢◌, ◌⊎◌, inl, inr, ⊎_elim, ℕ, suc, ◌+◌, ◌<◌, ◌≤◌, ◌^◌, Bool, true, false, not, ◌&&◌, ◌||◌, List, [], ◌∷◌, ◌++◌, length, map, replicate, nat_eq, slice_get, slice_set, Option, Some, refl, sym, ap, ◌∙◌, subst, arith, ne_eqb, eq-eqb, list_any, nat_cmp, is_at, insert_entry, insert_key, remove_key, length_push, get_or-replicate, length-replicate, slice_get_within, slice_get-get_or, nat_cmp_total, tied_itself, Event, Look, Enter, Admit, Back, EndSeeds, Take, Done, Close, Reply, one_if, Subqueue, empty_subqueue, unfinished, after_accepting, after_taking, after_finishing, State, start, count_of, word_of, unfinished_in, Run, sum_at, lookup-insert_entry, Sound, GateEffect, gate_effect, length-insert_key, holder_counts, run_sound, start_count, eqb_same, Word, bits, open_at, closed_at, GateInvariant, IsMaximum, GateId, Entry, Lane, Whole, IsFirst, Seeds, Offer, Act, Splits, Looks, LooksAway, Enters, Loses, LeavesOffer, LeavesSeen, LeavesFetch, LeavesSeeds, Closes, NotClosesClosed, NotClosesPending, Pushes, Pops, PopsNone, FindsNothing, TakesIn, Looking, Entering, Losing, Leaving, Pushing, Popping, IsSent, IsUnitOf, IsOwner, core_word, is_offering, loaded_by, with_gate, with_lane, after_splitting, after_looking, after_entering, after_leaving, after_fetching, after_seeding, after_pushing, Atomic, History, events_of, events, message_of, HasLists, ShowsLane, ShowsWhole, UnitsAreOwned, or_left, or_right}
use Rattle.std.specs.Bool.{if◌then◌else◌}
use Rattle.std.specs.Map.{lookup, remove_entry}
use Rattle.crawl_core.specs.declared.word.Word as core
use Rattle.crawl_core.specs.declared.reply.Reply.TheVariants as says
use Rattle.crawl_core.specs.declared.reply.Refusal.TheVariants as why
use Rattle.crawl_core.specs.Messages.{has_url, count_from}
use Rattle.crawl_core.specs.GateSide.{holds, remembers, let_go, grant, same_word}
use Rattle.crawl_core.specs.Step.{Turn, turn, with_subqueue}
use Rattle.crawl_gate.specs.GateInvariant as gates
use Rattle.crawl_gate.proofs.Histories as gate_words
use Rattle.crawl_gate.proofs.Histories.{keeps_invariant, first_kept}
use Rattle.crawl_queues.specs.Entries as entries
use Rattle.crawl_queues.specs.History as subqueues
use Rattle.crawl_tie.proofs.GateSteps.{Goes, looked, entered, lost, left, closed, not_closed, split_off, entered_below}
use Rattle.crawl_tie.proofs.Owners.{still_owned, split_owned, entered_owned, left_owned, pushed_owned, fetched_owned, seeds_owned, first_owned}
use Rattle.crawl_tie.proofs.Lanes.{lanes_set, pushed_lane, popped_lane, same_lane, counted_has, taken_in_has, made_lane, oldest_is, sent_is, same_urls, same_counts, none_waits}
use Rattle.crawl_queues.proofs.LogLines.{set_same}

-- what must also be true, so that the next step can be represented
pub record Ties (gate : GateId) (workers : ℕ) (w : Whole) (s : State) : Type 0 where
  pub shows : ShowsWhole gate workers s w
  pub owned : UnitsAreOwned w
  pub keeps : GateInvariant gate.max_pending w.gate
  pub sound : Sound s
  pub within : count_of s ≤ s.gate.max
  pub max : w.max ≡ gate.max_pending
  pub fits : IsMaximum gate.max_pending

-- a run of these events to a state that represents this moment
pub record Next (gate : GateId) (workers : ℕ) (w : Whole) (s : State) (es : List (Event × Reply)) : Type 0 where
  pub state : State
  pub run : Run s es state
  pub ties : Ties gate workers w state

run_append : (a b c : State) (xs ys : List (Event × Reply)) → Run a xs b → Run b ys c → Run a (xs ++ ys) c
run_append a b c [] ys first second = subst (λ z. Run z ys c) first second
run_append a b c (x ∷ xs) ys first second = (first.0, first.1, run_append first.0 b c xs ys first.2 second)

then_next : (gate : GateId) (workers : ℕ) (w w' : Whole) (s : State) (xs ys : List (Event × Reply)) → (n : Next gate workers w s xs) → Next gate workers w' n.state ys → Next gate workers w' s (xs ++ ys)
then_next gate workers w w' s xs ys n m = record { state = m.state; run = run_append s n.state m.state xs ys n.run m.run; ties = m.ties }

-- what is true after a step: the owners of the units, and the gate's invariant
pub record Parts (gate : GateId) (w w' : Whole) : Type 0 where
  pub owned : UnitsAreOwned w'
  pub keeps : GateInvariant gate.max_pending w'.gate
  pub max : w'.max ≡ w.max

-- one event, whose turn is known
one : (gate : GateId) (workers : ℕ) (w w' : Whole) (s : State) → Ties gate workers w s → (event : Event) (t : Turn) → turn s event ≡ t → Parts gate w w' → ShowsWhole gate workers t.state w' → Next gate workers w' s ((event, t.reply) ∷ [])
one gate workers w w' s ties event t is parts shows =
    let effect = subst (GateEffect s) is (gate_effect s ties.sound event) in
    record {
      state = t.state;
      run = (t.state, record { reply_is = ap (λ (x : Turn). x.reply) (sym is); state_is = ap (λ (x : Turn). x.state) (sym is) }, refl);
      ties = record { shows = shows; owned = parts.owned; keeps = parts.keeps; sound = effect.sound; within = effect.within ties.within; max = parts.max ∙ ties.max; fits = ties.fits };
    }

-- no event
none : (gate : GateId) (workers : ℕ) (w w' : Whole) (s : State) → Ties gate workers w s → Parts gate w w' → ShowsWhole gate workers s w' → Next gate workers w' s []
none gate workers w w' s ties parts shows = grind arith

-- ## Words of the gate

-- the word that a step meets is the state's
pub met : (gate : GateId) (workers : ℕ) (w : Whole) (s : State) → Ties gate workers w s → (x : Word) → w.gate.words ≡ bits x ∷ [] → x.0 < 2 ^ 63 → x ≡ (count_of s, s.gate.closed)
met gate workers w s ties x at small = grind arith

goes_keeps : (gate : GateId) (workers : ℕ) (w : Whole) (s : State) → Ties gate workers w s → (m : gates.Moment) (x y : Word) → Goes w.gate m x y → GateInvariant gate.max_pending m
goes_keeps gate workers w s ties m x y go = keeps_invariant gate.max_pending w.gate m ties.keeps go.step

-- ## Turns

abbrev look_turn : State → ℕ → Word → Turn
look_turn s id x = record { reply = says.Word x.0 x.1; state = record s { gate = record s.gate { remembered = insert_entry nat_cmp s.gate.remembered id (core_word x) } } }

abbrev granted : State → ℕ → State
granted s id = record s { gate = (grant s.gate (unfinished_in s) id).gate }

enter_turn : (s : State) (id n : ℕ) → holds s.gate id ≡ false → remembers s.gate id ≡ Some (core_word (open_at n)) → count_of s ≡ n → s.gate.closed ≡ false → nat_eq (count_of s) s.gate.max ≡ false → turn s (Enter id) ≡ record { reply = says.Entered (suc n); state = granted s id }
enter_turn s id n free found count opened below = grind arith

-- ## Each kind of step

loads : (gate : GateId) (workers : ℕ) (w : Whole) (s : State) → Ties gate workers w s → (id : ℕ) (x : Word) (m : gates.Moment) → Looking w.gate m x → Next gate workers (after_looking w m id x) s ((Look id, says.Word x.0 x.1) ∷ [])
loads gate workers w s ties id x m look =
    let shows = ties.shows in
    let go = looked w.gate m x look in
    let is = met gate workers w s ties x go.from go.small in
    let still = still_owned w m look.view _ x x ties.owned look.steps refl in
    let parts : Parts gate w (after_looking w m id x) = record {
      owned = record { held = still.held; seeds = still.seeds; seeds_once = still.seeds_once; offers = still.offers; offers_once = still.offers_once };
      keeps = goes_keeps gate workers w s ties m x x go;
      max = refl;
    } in
    one gate workers w (after_looking w m id x) s ties (Look id) (look_turn s id x) (ap (look_turn s id) (sym is)) parts (record {
      word = go.to ∙ ap (λ y. bits y ∷ []) is;
      holders = shows.holders;
      remembered = ap (λ r. insert_entry nat_cmp r id (core_word x)) shows.remembered;
      opening = shows.opening;
      max = shows.max;
      lanes = shows.lanes;
    })

is_free : (gate : GateId) (workers : ℕ) (w : Whole) (s : State) → ShowsWhole gate workers s w → (id : ℕ) (b : Bool) → is_offering w id ≡ b → holds s.gate id ≡ b
is_free gate workers w s shows id b e = ap (λ ids. list_any (is_at (nat_cmp id)) ids) shows.holders ∙ e

is_loaded : (gate : GateId) (workers : ℕ) (w : Whole) (s : State) → ShowsWhole gate workers s w → (id : ℕ) (o : Option core.Word) → loaded_by w id ≡ o → remembers s.gate id ≡ o
is_loaded gate workers w s shows id o e = ap (λ r. lookup (is_at (nat_cmp id)) r) shows.remembered ∙ e

enters : (gate : GateId) (workers : ℕ) (w : Whole) (s : State) → Ties gate workers w s → (id n : ℕ) (m : gates.Moment) → (step : Entering w.gate m n) → is_offering w id ≡ false → loaded_by w id ≡ Some (core_word (open_at n)) → Next gate workers (after_entering w m step.steps.seat id) s ((Enter id, says.Entered (suc n)) ∷ [])
enters gate workers w s ties id n m step free loaded =
    let shows = ties.shows in
    let w' = after_entering w m step.steps.seat id in
    let go = entered w.gate m n step in
    let is = met gate workers w s ties (open_at n) go.from go.small in
    let count : count_of s ≡ n = sym (ap (λ y. y.0) is) in
    let opened : s.gate.closed ≡ false = sym (ap (λ y. y.1) is) in
    let room : n < gate.max_pending = entered_below gate.max_pending w.gate m n ties.keeps step in
    let max : s.gate.max ≡ gate.max_pending = shows.max ∙ ties.max in
    let below : nat_eq (count_of s) s.gate.max ≡ false = ne_eqb (count_of s) s.gate.max (λ same. omega (arith, same, count, room, max)) in
    let free' = is_free gate workers w s shows id false free in
    let longer : length (insert_key nat_cmp s.gate.holders id) ≡ suc (length s.gate.holders) = length-insert_key s.gate.holders id free' in
    let more : n + 1 ≡ count_of (granted s id) = omega (arith, count, longer) in
    let parts : Parts gate w w' = record {
      owned = entered_owned w m n id ties.owned step free;
      keeps = goes_keeps gate workers w s ties m (open_at n) (open_at (n + 1)) go;
      max = refl;
    } in
    one gate workers w w' s ties (Enter id) (record { reply = says.Entered (suc n); state = granted s id })
    (enter_turn s id n free' (is_loaded gate workers w s shows id (Some (core_word (open_at n))) loaded) count opened below) parts (assumption (go.to ∙ (ap (λ k. bits (k, false) ∷ []) more ∙ ap (λ b. bits (count_of (granted s id), b) ∷ []) (sym opened)), ap (λ ids. insert_key nat_cmp ids id) shows.holders, ap (λ r. remove_entry (is_at (nat_cmp id)) r) shows.remembered))

-- the same state represents another moment of the gate, whose word is the same
shows_still : (gate : GateId) (workers : ℕ) (w : Whole) (s : State) → ShowsWhole gate workers s w → (m : gates.Moment) → m.words ≡ bits (count_of s, s.gate.closed) ∷ [] → ShowsWhole gate workers s (with_gate w m)
shows_still gate workers w s shows m word = grind arith

other_word : (s : State) (n c : ℕ) (b : Bool) → (same : Bool) → nat_eq n c ≡ same → ((c, b) ≡ open_at n → ⊥) → (nat_eq n c && not b) ≡ false
other_word s n c b same e apart = grind arith

loses : (gate : GateId) (workers : ℕ) (w : Whole) (s : State) → Ties gate workers w s → (id n : ℕ) (x : Word) (m : gates.Moment) → Losing w.gate m n x → is_offering w id ≡ false → loaded_by w id ≡ Some (core_word (open_at n)) → Next gate workers (with_gate w m) s ((Enter id, says.Lost) ∷ [])
loses gate workers w s ties id n x m step free loaded =
    let shows = ties.shows in
    let go = lost w.gate m n x step in
    let is = met gate workers w s ties x go.from go.small in
    let free' = is_free gate workers w s shows id false free in
    let found = is_loaded gate workers w s shows id (Some (core_word (open_at n))) loaded in
    let other : same_word (core_word (open_at n)) (word_of s) ≡ false = other_word s n (count_of s) s.gate.closed (nat_eq n (count_of s)) refl (λ e. step.other (is ∙ e)) in
    let turned : turn s (Enter id) ≡ record { reply = says.Lost; state = s } = rw (free', found, other) refl in
    let parts : Parts gate w (with_gate w m) = record {
      owned = still_owned w m step.view _ x x ties.owned step.steps refl;
      keeps = goes_keeps gate workers w s ties m x x go;
      max = refl;
    } in
    one gate workers w (with_gate w m) s ties (Enter id) (record { reply = says.Lost; state = s }) turned parts (shows_still gate workers w s shows m (go.to ∙ ap (λ y. bits y ∷ []) is))

pushes : (gate : GateId) (workers : ℕ) (w : Whole) (s : State) → Ties gate workers w s → (q : ℕ) (e : Entry) (l : Lane) (m : subqueues.Moment) → (p : Pushing l.moment m e) → slice_get w.lanes q ≡ Some l → IsUnitOf w e.sender p.message → Next gate workers (after_pushing w q l m p.message.unit.number e.sender) s ((Admit e.sender e.url q, says.Accepted q e.number) ∷ [])
pushes gate workers w s ties q e l m p at unit =
    let shows = ties.shows in
    let seat = p.message.unit.number in
    let w' = after_pushing w q l m seat e.sender in
    let there = shows.lanes q l at in
    let queue = there.0 in
    let held = is_free gate workers w s shows e.sender true (ties.owned.offers seat e.sender unit.owner) in
    let sent = sent_is gate workers q queue l there.2 p.pass p.home p.sent p.view in
    let accepted : map message_of p.sent ≡ queue.accepted = ap (map message_of) sent ∙ there.2.accepts in
    let unseen : has_url queue.accepted e.url ≡ false =
    ap (λ ms. has_url ms e.url) (sym accepted) ∙ (same_urls p.sent e.url ∙ subst (λ (x : Entry). entries.has_url x.url p.sent ≡ false) p.entry_is p.may.new) in
    let number : e.number ≡ count_from queue.accepted e.sender =
    subst (λ (x : Entry). x.number ≡ entries.count_of x.sender p.sent) p.entry_is p.may.number ∙ (sym (same_counts p.sent e.sender) ∙ ap (λ ms. count_from ms e.sender) accepted) in
    let next : Subqueue = after_accepting queue (message_of e) in
    let put_turn = λ (k : ℕ). (let t : Turn = record {
      reply = says.Accepted q k;
      state = record s { gate = let_go s.gate e.sender; subqueues = slice_set s.subqueues q (after_accepting queue (record { url = e.url; sender = e.sender; number = k })) };
    } in t) in
    let after : State = (put_turn e.number).state in
    let turned : turn s (Admit e.sender e.url q) ≡ put_turn (count_from queue.accepted e.sender) = rw (there.1, held, unseen) refl in
    let inv = ties.sound.queues q queue there.1 in
    let fewer = holder_counts s.gate (unfinished_in s) e.sender held in
    let sum = sum_at unfinished s.subqueues q queue next there.1 in
    let longer : length (queue.accepted ++ message_of e ∷ []) ≡ length queue.accepted + 1 = length_push queue.accepted (message_of e) in
    let same : count_of after ≡ count_of s = omega (arith, fewer, sum, longer, inv.within) in
    let parts : Parts gate w w' = record { owned = pushed_owned w q l m seat e.sender ties.owned unit.owner; keeps = ties.keeps; max = refl } in
    one gate workers w w' s ties (Admit e.sender e.url q) (put_turn e.number) (turned ∙ ap put_turn (sym number)) parts (assumption (shows.word ∙ ap (λ k. bits (k, s.gate.closed) ∷ []) (sym same), ap (λ ids. remove_key (is_at (nat_cmp e.sender)) ids) shows.holders, lanes_set gate workers s.subqueues w.lanes shows.lanes q queue next l (record { moment = m; fetching = l.fetching }) there.1 at (pushed_lane gate workers q queue l m e there.2 p)))

-- a step that changes only the subqueues
same_parts : (gate : GateId) (workers : ℕ) (w : Whole) (s : State) → Ties gate workers w s → (q : ℕ) (l : Lane) → Parts gate w (with_lane w q l)
same_parts gate workers w s ties q l = grind arith

pops : (gate : GateId) (workers : ℕ) (w : Whole) (s : State) → Ties gate workers w s → (q : ℕ) (e : Entry) (l : Lane) (m : subqueues.Moment) → Popping l.moment m e → slice_get w.lanes q ≡ Some l → l.fetching ≡ false → Next gate workers (with_lane w q (record { moment = m; fetching = true })) s ((Take q, says.Taken e.url) ∷ [])
pops gate workers w s ties q e l m p at idle =
    let shows = ties.shows in
    let there = shows.lanes q l at in
    let queue = there.0 in
    let idle' : queue.busy ≡ false = there.2.busy ∙ idle in
    let oldest = oldest_is gate workers q queue l m e there.2 p in
    let next : Subqueue = after_taking queue in
    let l' : Lane = record { moment = m; fetching = true } in
    let turned : turn s (Take q) ≡ record { reply = says.Taken e.url; state = with_subqueue s q next } = rw (there.1, idle', oldest) refl in
    let below = slice_get_within queue.accepted queue.taken (message_of e) oldest in
    let was_idle : one_if queue.busy ≡ 0 = ap one_if idle' in
    let sum = sum_at unfinished s.subqueues q queue next there.1 in
    let same : count_of (with_subqueue s q next) ≡ count_of s = omega (arith, sum, was_idle, below) in
    one gate workers w (with_lane w q l') s ties (Take q) (record { reply = says.Taken e.url; state = with_subqueue s q next }) turned (same_parts gate workers w s ties q l') (assumption (shows.word ∙ ap (λ k. bits (k, s.gate.closed) ∷ []) (sym same), lanes_set gate workers s.subqueues w.lanes shows.lanes q queue next l l' there.1 at (popped_lane gate workers q queue l m e there.2 p)))

pops_none : (gate : GateId) (workers : ℕ) (w : Whole) (s : State) → Ties gate workers w s → (q : ℕ) (l : Lane) → slice_get w.lanes q ≡ Some l → l.moment.items ≡ [] → l.fetching ≡ false → Next gate workers w s ((Take q, says.Empty) ∷ [])
pops_none gate workers w s ties q l at empty idle =
    let there = ties.shows.lanes q l at in
    let queue = there.0 in
    let idle' : queue.busy ≡ false = there.2.busy ∙ idle in
    let nothing = none_waits gate workers q queue l there.2 empty in
    let turned : turn s (Take q) ≡ record { reply = says.Empty; state = s } = rw (there.1, idle', nothing) refl in
    one gate workers w w s ties (Take q) (record { reply = says.Empty; state = s }) turned (record { owned = ties.owned; keeps = ties.keeps; max = refl }) ties.shows

-- a step of a subqueue that does not change its lists
keeps_lists : (gate : GateId) (workers : ℕ) (w : Whole) (s : State) → Ties gate workers w s → (q : ℕ) (l : Lane) (m : subqueues.Moment) → slice_get w.lanes q ≡ Some l
    → ((sent taken : List Entry) → HasLists gate workers q l.moment sent taken → HasLists gate workers q m sent taken) → Next gate workers (with_lane w q (record { moment = m; fetching = l.fetching })) s []
keeps_lists gate workers w s ties q l m at same =
    let shows = ties.shows in
    let there = shows.lanes q l at in
    let queue = there.0 in
    let l' : Lane = record { moment = m; fetching = l.fetching } in
    let lane = there.2 in
    let all = lanes_set gate workers s.subqueues w.lanes shows.lanes q queue queue l l' there.1 at (same_lane gate workers q queue l m lane (same lane.sent lane.taken lane.lists)) in
    none gate workers w (with_lane w q l') s ties (same_parts gate workers w s ties q l') (assumption (subst (λ queues. (k : ℕ) (x : Lane) → slice_get (slice_set w.lanes q l') k ≡ Some x → (y : Subqueue) × (slice_get queues k ≡ Some y) × ShowsLane gate workers k y x) (set_same s.subqueues q queue there.1) all))

leaves_offer : (gate : GateId) (workers : ℕ) (w : Whole) (s : State) → Ties gate workers w s → (id n : ℕ) (m : gates.Moment) → (step : Leaving w.gate m n) → IsOwner w step.steps.seat (Offer id) → Next gate workers (after_leaving w m step.steps.seat id) s ((Back id, says.Count n) ∷ [])
leaves_offer gate workers w s ties id n m step owner =
    let shows = ties.shows in
    let go = left w.gate m n step in
    let w' = after_leaving w m step.steps.seat id in
    let is = met gate workers w s ties (open_at (n + 1)) go.from go.small in
    let count : n + 1 ≡ count_of s = ap (λ y. y.0) is in
    let opened : false ≡ s.gate.closed = ap (λ y. y.1) is in
    let held = is_free gate workers w s shows id true (ties.owned.offers step.steps.seat id owner) in
    let after : State = record s { gate = let_go s.gate id } in
    let fewer = holder_counts s.gate (unfinished_in s) id held in
    let less : n ≡ count_of after = omega (arith, fewer, count) in
    let turned : turn s (Back id) ≡ record { reply = says.Count (count_of after); state = after } = rw held refl in
    let parts : Parts gate w w' = record { owned = left_owned w m n id ties.owned step owner; keeps = goes_keeps gate workers w s ties m (open_at (n + 1)) (open_at n) go; max = refl } in
    one gate workers w w' s ties (Back id) (record { reply = says.Count n; state = after })
    (turned ∙ ap (λ k. (let t : Turn = record { reply = says.Count k; state = after } in t)) (sym less)) parts (assumption (go.to ∙ (ap (λ k. bits (k, false) ∷ []) less ∙ ap (λ b. bits (count_of after, b) ∷ []) opened), ap (λ ids. remove_key (is_at (nat_cmp id)) ids) shows.holders))

seen_turn : (s : State) (id q : ℕ) (url : List ℕ) (queue : Subqueue) → slice_get s.subqueues q ≡ Some queue → holds s.gate id ≡ true → has_url queue.accepted url ≡ true → turn s (Admit id url q) ≡ record { reply = says.Seen; state = s }
seen_turn s id q url queue at held seen = rw (at, held, seen) refl

leaves_seen : (gate : GateId) (workers : ℕ) (w : Whole) (s : State) → Ties gate workers w s → (id q : ℕ) (url : List ℕ) (n : ℕ) (m : gates.Moment) (l : Lane) → (step : Leaving w.gate m n) → IsOwner w step.steps.seat (Offer id) → slice_get w.lanes q ≡ Some l → IsSent l.moment url → Next gate workers (after_leaving w m step.steps.seat id) s ((Admit id url q, says.Seen) ∷ (Back id, says.Count n) ∷ [])
leaves_seen gate workers w s ties id q url n m l step owner at listed =
    let shows = ties.shows in
    let there = shows.lanes q l at in
    let queue = there.0 in
    let held = is_free gate workers w s shows id true (ties.owned.offers step.steps.seat id owner) in
    let sent = sent_is gate workers q queue l there.2 listed.pass listed.home listed.sent listed.view in
    let accepted : map message_of listed.sent ≡ queue.accepted = ap (map message_of) sent ∙ there.2.accepts in
    let seen : has_url queue.accepted url ≡ true = ap (λ ms. has_url ms url) (sym accepted) ∙ (same_urls listed.sent url ∙ listed.listed) in
    let first = one gate workers w w s ties (Admit id url q) (record { reply = says.Seen; state = s }) (seen_turn s id q url queue there.1 held seen) (record { owned = ties.owned; keeps = ties.keeps; max = refl }) shows in
    then_next gate workers w (after_leaving w m step.steps.seat id) s ((Admit id url q, says.Seen) ∷ []) ((Back id, says.Count n) ∷ []) first (leaves_offer gate workers w first.state first.ties id n m step owner)

leaves_fetch : (gate : GateId) (workers : ℕ) (w : Whole) (s : State) → Ties gate workers w s → (q n : ℕ) (m : gates.Moment) (l : Lane) → (step : Leaving w.gate m n) → slice_get w.lanes q ≡ Some l → l.fetching ≡ true → Next gate workers (after_fetching w m step.steps.seat q l) s ((Done q, says.Count n) ∷ [])
leaves_fetch gate workers w s ties q n m l step at busy =
    let shows = ties.shows in
    let go = left w.gate m n step in
    let there = shows.lanes q l at in
    let queue = there.0 in
    let lane = there.2 in
    let w' = after_fetching w m step.steps.seat q l in
    let is = met gate workers w s ties (open_at (n + 1)) go.from go.small in
    let count : n + 1 ≡ count_of s = ap (λ y. y.0) is in
    let opened : false ≡ s.gate.closed = ap (λ y. y.1) is in
    let busy' : queue.busy ≡ true = lane.busy ∙ busy in
    let inv = ties.sound.queues q queue there.1 in
    let next : Subqueue = after_finishing queue in
    let after : State = with_subqueue s q next in
    let was_busy : one_if queue.busy ≡ 1 = ap one_if busy' in
    let sum = sum_at unfinished s.subqueues q queue next there.1 in
    let begun : 1 ≤ queue.taken = omega (arith, inv.begun, was_busy) in
    let fewer : count_of after + 1 ≡ count_of s = omega (arith, sum, was_busy, begun, inv.within) in
    let less : n ≡ count_of after = omega (arith, fewer, count) in
    let turned : turn s (Done q) ≡ record { reply = says.Count (count_of after); state = after } = rw (there.1, busy') refl in
    let l' : Lane = record { moment = l.moment; fetching = false } in
    let shown_lane : ShowsLane gate workers q next l' = record { sent = lane.sent; taken = lane.taken; lists = lane.lists; accepts = lane.accepts; takes = lane.takes; busy = refl } in
    let parts : Parts gate w w' = record { owned = fetched_owned w m n q l ties.owned step; keeps = goes_keeps gate workers w s ties m (open_at (n + 1)) (open_at n) go; max = refl } in
    one gate workers w w' s ties (Done q) (record { reply = says.Count n; state = after })
    (turned ∙ ap (λ k. (let t : Turn = record { reply = says.Count k; state = after } in t)) (sym less)) parts (assumption (go.to ∙ (ap (λ k. bits (k, false) ∷ []) less ∙ ap (λ b. bits (count_of after, b) ∷ []) opened), lanes_set gate workers s.subqueues w.lanes shows.lanes q queue next l l' there.1 at shown_lane))

leaves_seeds : (gate : GateId) (workers : ℕ) (w : Whole) (s : State) → Ties gate workers w s → (n : ℕ) (m : gates.Moment) → (step : Leaving w.gate m n) → IsOwner w step.steps.seat Seeds → Next gate workers (after_seeding w m step.steps.seat) s ((EndSeeds, says.Count n) ∷ [])
leaves_seeds gate workers w s ties n m step owner =
    let shows = ties.shows in
    let go = left w.gate m n step in
    let w' = after_seeding w m step.steps.seat in
    let is = met gate workers w s ties (open_at (n + 1)) go.from go.small in
    let count : n + 1 ≡ count_of s = ap (λ y. y.0) is in
    let opened : false ≡ s.gate.closed = ap (λ y. y.1) is in
    let out : s.gate.opening ≡ true = shows.opening ∙ ties.owned.seeds step.steps.seat owner in
    let one_out : one_if s.gate.opening ≡ 1 = ap one_if out in
    let after : State = record s { gate = record s.gate { opening = false } } in
    let less : n ≡ count_of after = omega (arith, one_out, count) in
    let turned : turn s EndSeeds ≡ record { reply = says.Count (count_of after); state = after } = rw out refl in
    let parts : Parts gate w w' = record { owned = seeds_owned w m n ties.owned step owner; keeps = goes_keeps gate workers w s ties m (open_at (n + 1)) (open_at n) go; max = refl } in
    one gate workers w w' s ties EndSeeds (record { reply = says.Count n; state = after })
    (turned ∙ ap (λ k. (let t : Turn = record { reply = says.Count k; state = after } in t)) (sym less)) parts (assumption (go.to ∙ (ap (λ k. bits (k, false) ∷ []) less ∙ ap (λ b. bits (count_of after, b) ∷ []) opened)))

abbrev shut : State → State
shut s = record s { gate = record s.gate { closed = true } }

closing_turn : (s : State) → (s.gate.closed || nat_eq (count_of s) 0) ≡ true → turn s Close ≡ record { reply = says.Closed; state = shut s }
closing_turn s may = rw may refl

-- an exchange that closes the gate, or finds it closed
closes : (gate : GateId) (workers : ℕ) (w : Whole) (s : State) → Ties gate workers w s → (m : gates.Moment) (x : Word) → Goes w.gate m x (closed_at 0) → UnitsAreOwned (with_gate w m) → x.0 ≡ 0 → (x ≡ (count_of s, s.gate.closed) → (s.gate.closed || nat_eq (count_of s) 0) ≡ true) → Next gate workers (with_gate w m) s ((Close, says.Closed) ∷ [])
closes gate workers w s ties m x go owned zero_is may =
    let shows = ties.shows in
    let is = met gate workers w s ties x go.from go.small in
    let count : 0 ≡ count_of s = sym zero_is ∙ ap (λ y. y.0) is in
    let parts : Parts gate w (with_gate w m) = record { owned = owned; keeps = goes_keeps gate workers w s ties m x (closed_at 0) go; max = refl } in
    one gate workers w (with_gate w m) s ties Close (record { reply = says.Closed; state = shut s }) (closing_turn s (may is)) parts (assumption (go.to ∙ ap (λ k. bits (k, true) ∷ []) count))

pends : (gate : GateId) (workers : ℕ) (w : Whole) (s : State) → Ties gate workers w s → (n : ℕ) (m : gates.Moment) → open_at n ≢ open_at 0 → Goes w.gate m (open_at n) (open_at n) → UnitsAreOwned (with_gate w m) → Next gate workers (with_gate w m) s ((Close, says.Pending n) ∷ [])
pends gate workers w s ties n m some go owned =
    let shows = ties.shows in
    let is = met gate workers w s ties (open_at n) go.from go.small in
    let count : count_of s ≡ n = sym (ap (λ y. y.0) is) in
    let opened : s.gate.closed ≡ false = sym (ap (λ y. y.1) is) in
    let may : (s.gate.closed || nat_eq (count_of s) 0) ≡ false = rw opened (ne_eqb (count_of s) 0 (λ zero_is. some (ap (λ k. open_at k) (sym count ∙ zero_is)))) in
    let turned : turn s Close ≡ record { reply = says.Pending (count_of s); state = s } = rw may refl in
    let parts : Parts gate w (with_gate w m) = record { owned = owned; keeps = goes_keeps gate workers w s ties m (open_at n) (open_at n) go; max = refl } in
    one gate workers w (with_gate w m) s ties Close (record { reply = says.Pending n; state = s })
    (turned ∙ ap (λ k. (let t : Turn = record { reply = says.Pending k; state = s } in t)) count) parts
    (shows_still gate workers w s shows m (go.to ∙ ap (λ y. bits y ∷ []) is))

refused_turn : (s : State) (id : ℕ) → holds s.gate id ≡ false → remembers s.gate id ≡ Some (word_of s) → (s.gate.closed ≡ true) ⊎ (nat_eq (count_of s) s.gate.max ≡ true) → turn s (Enter id) ≡ record { reply = says.Refused (if s.gate.closed then why.Closed else why.Full); state = s }
refused_turn s id free found away = grind arith

looks_away : (gate : GateId) (workers : ℕ) (w : Whole) (s : State) → Ties gate workers w s → (id : ℕ) (x : Word) (m : gates.Moment) → Looking w.gate m x → is_offering w id ≡ false → (x.1 ≡ true) ⊎ (x.0 ≡ w.max) → Next gate workers (after_looking w m id x) s ((Look id, says.Word x.0 x.1) ∷ (Enter id, says.Refused (if x.1 then why.Closed else why.Full)) ∷ [])
unfolding loads one
looks_away gate workers w s ties id x m look free away =
    let w' = after_looking w m id x in
    let shows = ties.shows in
    let go = looked w.gate m x look in
    let is = met gate workers w s ties x go.from go.small in
    let first = loads gate workers w s ties id x m look in
    let after : State = (look_turn s id x).state in
    let found : remembers after.gate id ≡ Some (core_word x) =
    lookup-insert_entry nat_cmp_total id id (core_word x) s.gate.remembered ∙ rw (tied_itself nat_cmp_total id) refl in
    let away' : (s.gate.closed ≡ true) ⊎ (nat_eq (count_of s) s.gate.max ≡ true) =
    ⊎_elim (λ e. inl (ap (λ y. y.1) (sym is) ∙ e)) (λ e. inr (let same : count_of s ≡ s.gate.max = ap (λ y. y.0) (sym is) ∙ (e ∙ sym shows.max) in rw same (eqb_same s.gate.max))) away in
    let turned = refused_turn after id (is_free gate workers w s shows id false free) (found ∙ ap (λ y. Some (core_word y)) is) away' in
    let second = one gate workers w' w' after first.ties (Enter id) (record { reply = says.Refused (if x.1 then why.Closed else why.Full); state = after })
    (turned ∙ ap (λ b. (let t : Turn = record { reply = says.Refused (if b then why.Closed else why.Full); state = after } in t)) (ap (λ y. y.1) (sym is))) (record { owned = first.ties.owned; keeps = first.ties.keeps; max = refl }) first.ties.shows in
    then_next gate workers w' w' s ((Look id, says.Word x.0 x.1) ∷ []) ((Enter id, says.Refused (if x.1 then why.Closed else why.Full)) ∷ []) first second

-- ## Histories

moved : (gate : GateId) (workers : ℕ) (w w' v : Whole) (s : State) (es : List (Event × Reply)) → v ≡ w' → Next gate workers w' s es → Next gate workers v s es
moved gate workers w w' v s es is n = subst (λ u. Next gate workers u s es) (sym is) n

pub step : (gate : GateId) (workers : ℕ) (w v : Whole) (s : State) → Ties gate workers w s → (act : Act) → Atomic w act v → Next gate workers v s (events_of act)
step gate workers w v s ties Splits a =
    let shows = ties.shows in
    moved gate workers w _ v s _ a.2 (none gate workers w (after_splitting w a.0) s ties
    (record { owned = split_owned w a.0 ties.owned a.1; keeps = keeps_invariant gate.max_pending w.gate a.0 ties.keeps (split_off w.gate a.0 a.1); max = refl })
    (record { word = ap (λ (m : gates.Moment). m.words) a.1.next ∙ shows.word; holders = shows.holders; remembered = shows.remembered; opening = shows.opening; max = shows.max; lanes = shows.lanes }))
step gate workers w v s ties (Looks id x) a = moved gate workers w _ v s _ a.2 (loads gate workers w s ties id x a.0 a.1)
step gate workers w v s ties (LooksAway id x) a = moved gate workers w _ v s _ a.4 (looks_away gate workers w s ties id x a.0 a.1 a.2 a.3)
step gate workers w v s ties (Enters id n) a = moved gate workers w _ v s _ a.4 (enters gate workers w s ties id n a.0 a.1 a.2 a.3)
step gate workers w v s ties (Loses id x) a = moved gate workers w _ v s _ a.5 (loses gate workers w s ties id a.1 x a.0 a.2 a.3 a.4)
step gate workers w v s ties (LeavesOffer id n) a = moved gate workers w _ v s _ a.3 (leaves_offer gate workers w s ties id n a.0 a.1 a.2)
step gate workers w v s ties (LeavesSeen id q url n) a = moved gate workers w _ v s _ a.6 (leaves_seen gate workers w s ties id q url n a.0 a.1 a.2 a.3 a.4 a.5)
step gate workers w v s ties (LeavesFetch q n) a = moved gate workers w _ v s _ a.6 (leaves_fetch gate workers w s ties q n a.0 a.1 a.2 a.4 a.5)
step gate workers w v s ties (LeavesSeeds n) a = moved gate workers w _ v s _ a.3 (leaves_seeds gate workers w s ties n a.0 a.1 a.2)
step gate workers w v s ties Closes a =
    moved gate workers w _ v s _ a.2 (closes gate workers w s ties a.0 (open_at 0) (closed w.gate a.0 a.1) (still_owned w a.0 a.1.view _ (open_at 0) (closed_at 0) ties.owned a.1.steps refl) refl (λ is. or_right s.gate.closed (nat_eq (count_of s) 0) (eq-eqb (count_of s) 0 (sym (ap (λ y. y.0) is)))))
step gate workers w v s ties NotClosesClosed a =
    moved gate workers w _ v s _ a.2 (closes gate workers w s ties a.0 (closed_at 0) (not_closed w.gate a.0 (closed_at 0) a.1) (still_owned w a.0 a.1.view _ (closed_at 0) (closed_at 0) ties.owned a.1.steps refl) refl (λ is. or_left s.gate.closed (nat_eq (count_of s) 0) (sym (ap (λ y. y.1) is))))
step gate workers w v s ties (NotClosesPending n) a =
    moved gate workers w _ v s _ a.2 (pends gate workers w s ties n a.0 a.1.other (not_closed w.gate a.0 (open_at n) a.1) (still_owned w a.0 a.1.view _ (open_at n) (open_at n) ties.owned a.1.steps refl))
step gate workers w v s ties (Pushes q e) a = moved gate workers w _ v s _ a.5 (pushes gate workers w s ties q e a.0 a.1 a.2 a.3 a.4)
step gate workers w v s ties (Pops q e) a = moved gate workers w _ v s _ a.5 (pops gate workers w s ties q e a.0 a.1 a.2 a.3 a.4)
step gate workers w v s ties (PopsNone q) a = moved gate workers w _ v s _ a.4 (pops_none gate workers w s ties q a.0 a.1 a.2 a.3)
step gate workers w v s ties (FindsNothing q) a = moved gate workers w _ v s _ a.4 (keeps_lists gate workers w s ties q a.0 a.1 a.3 (λ sent taken has. counted_has gate workers q a.0.moment a.1 sent taken has a.2))
step gate workers w v s ties (TakesIn q) a = moved gate workers w _ v s _ a.4 (keeps_lists gate workers w s ties q a.0 a.1 a.3 (λ sent taken has. taken_in_has gate workers q a.0.moment a.1 sent taken has a.2))

pub runs : (gate : GateId) (workers : ℕ) (acts : List Act) (w v : Whole) (s : State) → Ties gate workers w s → History w acts v → Next gate workers v s (events acts)
runs gate workers [] w v s ties h = moved gate workers w w v s [] h (record { state = s; run = refl; ties = ties })
runs gate workers (act ∷ acts) w v s ties h =
    let first = step gate workers w h.0 s ties act h.1 in
    then_next gate workers h.0 v s (events_of act) (events acts) first (runs gate workers acts h.0 v first.state first.ties h.2)

pub first_ties : (gate : GateId) (workers : ℕ) (w : Whole) → IsMaximum gate.max_pending → IsFirst gate workers w → Ties gate workers w (start workers gate.max_pending)
first_ties gate workers w fits first =
    let max = gate.max_pending in
    let count = start_count workers max in
    record {
      shows = record {
        word = ap (λ (m : gates.Moment). m.words) first.gate_is ∙ ap (λ k. bits (k, false) ∷ []) (sym count);
        holders = sym first.offering;
        remembered = sym first.loaded;
        opening = sym first.seeding;
        max = sym first.max;
        lanes = λ q l at.
            let below = slice_get_within w.lanes q l at in
            let len = first.len in
            (empty_subqueue, slice_get-get_or (replicate workers empty_subqueue) q empty_subqueue (rw length-replicate (omega (arith, below, len))) ∙ ap Some (get_or-replicate workers q empty_subqueue empty_subqueue (omega (arith, below, len))), subst (λ x. ShowsLane gate workers q empty_subqueue x) (sym (first.lanes q l at)) (made_lane gate workers q));
      };
      owned = first_owned gate workers w first;
      keeps = subst (GateInvariant max) (sym first.gate_is) (first_kept max fits);
      sound = run_sound workers max [] (start workers max) refl;
      within = rw count (omega (arith, fits.0));
      max = first.max;
      fits = fits;
    }

pub histories_are_runs : (gate : GateId) (workers : ℕ) (first last : Whole) (acts : List Act) → IsMaximum gate.max_pending → IsFirst gate workers first → History first acts last → (state : State) × Run (start workers gate.max_pending) (events acts) state × ShowsWhole gate workers state last
histories_are_runs gate workers first last acts fits is_first h =
    let n = runs gate workers acts first last (start workers gate.max_pending) (first_ties gate workers first fits is_first) h in
    (n.state, n.run, n.ties.shows)

pub parts_keep : (gate : GateId) (workers : ℕ) (first last : Whole) (acts : List Act) → IsMaximum gate.max_pending → IsFirst gate workers first → History first acts last → GateInvariant gate.max_pending last.gate × UnitsAreOwned last
parts_keep gate workers first last acts fits is_first h =
    let n = runs gate workers acts first last (start workers gate.max_pending) (first_ties gate workers first fits is_first) h in
    (n.ties.keeps, n.ties.owned)
