-- The steps of a history are the steps that the gate's table allows for its plays and its split.
use Rattle.crawl_gate.proofs.Prelude.{◌≡◌, ℕ, ◌+◌, ◌-◌, ◌<◌, ◌^◌, Bool, true, List, [], ◌∷◌, ◌++◌, set, sym, refl, ap, ◌∙◌, subst, arith, slice_index, ◌||◌, dite, none, some, ℕ_discrete, get_elem?, Step, step, keeps, carried_after, at_set, set_again, View, Word, bits, open_at, closed_at, any_closed, units_of, units_held, knows_closed, fresh_view, view_looking, view_entering, view_losing, view_leaving, view_closing, view_not_closing, Moment, HasCloser, GateInvariant, MayMeet, Sitting, Looks, Enters, Leaves, Closes, SeatSteps, GateStep, splits, looks, enters, loses, leaves, closes, not_closes}
use Rattle.crawl_gate.specs.TableStep.{PlayMade, TableStep}
use Rattle.crawl_gate.specs.TableStep.TableStep.{by_look, by_take_unit, by_give_back, by_shut, by_split}
use Rattle.crawl_gate.proofs.Units.{at_itself, units_held-set}
use Rattle.crawl_gate.proofs.Slots.{homes_stay}
use Rattle.crawl_gate.proofs.Keeping.{word_of, still_closer, may_meet}
use Rattle.crawl_gate.proofs.Histories.{word_found, keeps_invariant}

-- ## Every play is a step

-- the moment after a step that changed a seat's view from v to w, for any written number
abbrev Wrote : Moment → Moment → ℕ → View → Type 0
Wrote gate gate' seat w = (written : ℕ) × (gate' ≡ record { words = set gate.words 0 written; homes = gate.homes; views = set gate.views seat w })

wrote : (reported : Sitting → ℕ → Sitting → Type 0) (gate gate' : Moment) (p : PlayMade reported gate gate') → carried_after [] p.act ≡ [] → (w : View) → p.after ≡ w
    → Wrote gate gate' p.seat w
wrote reported gate gate' p none_left w is = grind (arith, homes_stay)

-- a seat that has closed the gate after a step that closes nothing had closed it before
closer_before : (views : List View) (seat : ℕ) (v w : View) → get_elem? views seat ≡ some v → w.closed_gate ≡ v.closed_gate
    → HasCloser (set views seat w) → HasCloser views
closer_before views seat v w at same by = grind (arith, get_elem?, some, at_set)

knows_closer : (v : View) → v.closed_gate ≡ true → knows_closed v ≡ true
knows_closer v e = subst (λ (b : Bool). (b || any_closed v.met) ≡ true) (sym e) refl

both : (b b' : Bool) → (b ≡ true → b' ≡ true) → (b' ≡ true → b ≡ true) → b' ≡ b
both b b' there back = grind arith

-- a step that closes nothing keeps a closed gate closed and an open gate open
closed_stays : (max : ℕ) (gate gate' : Moment) (k : GateInvariant max gate) (k' : GateInvariant max gate') (seat : ℕ) (v w : View) → get_elem? gate.views seat ≡ some v
    → gate'.views ≡ set gate.views seat w → w.closed_gate ≡ v.closed_gate → k'.closed ≡ k.closed
closed_stays max gate gate' k k' seat v w at views same = both k.closed k'.closed
    (λ was.
    let by = subst HasCloser (sym views) (still_closer gate.views seat v w at (λ e. same ∙ e) (k.closer was)) in
    (k'.seats by.0 by.1 by.2).1 (knows_closer by.1 by.3))
    (λ is.
    let by = closer_before gate.views seat v w at same (subst HasCloser views (k'.closer is)) in
    (k.seats by.0 by.1 by.2).1 (knows_closer by.1 by.3))

-- such a step goes from the word that it found to the word of the invariant after it
seat_steps : (max : ℕ) (gate gate' : Moment) (k' : GateInvariant max gate') (seat : ℕ) (v w : View) (x y : Word) → get_elem? gate.views seat ≡ some v
    → gate.words ≡ bits x ∷ [] → x.0 < 2 ^ 63 → Wrote gate gate' seat w → word_of max gate' k' ≡ y → SeatSteps gate gate' v w x y
seat_steps max gate gate' k' seat v w x y at word small made is = grind arith

views_after : (gate gate' : Moment) (seat : ℕ) (w : View) → Wrote gate gate' seat w → gate'.views ≡ set gate.views seat w
views_after gate gate' seat w made = ap (λ (m : Moment). m.views) made.1

-- the units after such a step
units_after : (gate gate' : Moment) (seat : ℕ) (v w : View) → get_elem? gate.views seat ≡ some v → Wrote gate gate' seat w
    → units_held gate'.views + units_of v.holds_unit ≡ units_held gate.views + units_of w.holds_unit
units_after gate gate' seat v w at made = grind (arith, views_after, units_held-set)

-- the word that a play found is the invariant's word
met_is : (max : ℕ) (gate : Moment) (k : GateInvariant max gate) (x : Word) → slice_index gate.words 0 ≡ bits x → x.0 < 2 ^ 63 → word_of max gate k ≡ x
met_is max gate k x found small = grind arith

word_met : (max : ℕ) (gate : Moment) (k : GateInvariant max gate) (x : Word) → word_of max gate k ≡ x → gate.words ≡ bits x ∷ []
word_met max gate k x is = k.word ∙ ap (λ z. bits z ∷ []) is

-- a step that changes only what its seat has read
meeting : (max : ℕ) (gate gate' : Moment) (k : GateInvariant max gate) (k' : GateInvariant max gate') (seat : ℕ) (v w : View) (x : Word) → get_elem? gate.views seat ≡ some v
    → slice_index gate.words 0 ≡ bits x → x.0 < 2 ^ 63 → Wrote gate gate' seat w → w.holds_unit ≡ v.holds_unit → w.closed_gate ≡ v.closed_gate
    → SeatSteps gate gate' v w x x
meeting max gate gate' k k' seat v w x at found small made same_units same_closed =
    let is = met_is max gate k x found small in
    let sum = units_after gate gate' seat v w at made in
    let same : units_of w.holds_unit ≡ units_of v.holds_unit = ap units_of same_units in
    let count : units_held gate'.views ≡ units_held gate.views = omega arith in
    let closed = closed_stays max gate gate' k k' seat v w at (views_after gate gate' seat w made) same_closed in
    seat_steps max gate gate' k' seat v w x x at (word_met max gate k x is) small made ((λ i. (count i, closed i)) ∙ is)

-- a step from one open word to another
moving : (max : ℕ) (gate gate' : Moment) (k : GateInvariant max gate) (k' : GateInvariant max gate') (seat : ℕ) (v w : View) (m n : ℕ) → get_elem? gate.views seat ≡ some v
    → slice_index gate.words 0 ≡ bits (open_at m) → m < 2 ^ 63 → Wrote gate gate' seat w → m + units_of w.holds_unit ≡ n + units_of v.holds_unit → w.closed_gate ≡ v.closed_gate
    → SeatSteps gate gate' v w (open_at m) (open_at n)
moving max gate gate' k k' seat v w m n at found small made counts same_closed =
    let is = met_is max gate k (open_at m) found small in
    let was : units_held gate.views ≡ m = ap (λ z. z.0) is in
    let sum = units_after gate gate' seat v w at made in
    let count : units_held gate'.views ≡ n = omega arith in
    let closed = closed_stays max gate gate' k k' seat v w at (views_after gate gate' seat w made) same_closed ∙ ap (λ z. z.1) is in
    seat_steps max gate gate' k' seat v w (open_at m) (open_at n) at (word_met max gate k (open_at m) is) small made (λ i. (count i, closed i))

open_word : (x : Word) (n : ℕ) → bits x ≡ n → n < 2 ^ 63 → x ≡ open_at n
open_word x n e small = grind arith

look_is : (max : ℕ) (gate gate' : Moment) → GateInvariant max gate → GateInvariant max gate' → (s : Step (Unit {0})) → PlayMade (Looks s) gate gate' → GateStep gate gate'
look_is max gate gate' k k' s p =
    let t = p.allowed in
    let w = view_looking p.before t.0 in
    looks p.before t.0 (meeting max gate gate' k k' p.seat p.before w t.0 p.view t.2 t.1.small (wrote (Looks s) gate gate' p t.4 w t.3) refl refl)

take_unit_is : (max : ℕ) (gate gate' : Moment) → GateInvariant max gate → GateInvariant max gate' → (s : Step (Unit {0})) → PlayMade (Enters s) gate gate' → GateStep gate gate'
take_unit_is max gate gate' k k' s p =
    let t = p.allowed in
    let v = p.before in
    let x = t.2 in
    let n = s.first in
    let limit = k.small in
    let same_max = (k.seats p.seat v p.view).0 in
    let small : n < 2 ^ 63 = omega (arith, t.1, same_max, limit) in
    let none : units_of v.holds_unit ≡ 0 = ap units_of t.0 in
    dite (ℕ_discrete (slice_index gate.words 0) n)
    (λ hit.
    let is : x ≡ open_at n = open_word x n (sym t.4 ∙ hit) small in
    let w = view_entering v (open_at n) in
    enters v n t.0 t.1 (moving max gate gate' k k' p.seat v w n (n + 1) p.view (t.4 ∙ ap bits is) small (wrote (Enters s) gate gate' p t.7 w (t.5 hit ∙ ap (view_entering v) is)) (omega arith) refl))
    (λ miss.
    let w = view_losing v x in
    loses v n x t.0 t.1 (λ e. miss (t.4 ∙ ap bits e ∙ omega arith)) (meeting max gate gate' k k' p.seat v w x p.view t.4 t.3.small (wrote (Enters s) gate gate' p t.7 w (t.6 miss)) refl refl))

give_back_is : (max : ℕ) (gate gate' : Moment) → GateInvariant max gate → GateInvariant max gate' → (s : Step (Unit {0})) → PlayMade (Leaves s) gate gate' → GateStep gate gate'
give_back_is max gate gate' k k' s p =
    let t = p.allowed in
    let v = p.before in
    let x = t.1 in
    let held = t.2.holder t.0 in
    let some_held = held.1 in
    let small = t.2.small in
    let n : ℕ = x.0 - 1 in
    let more : x.0 ≡ n + 1 = omega arith in
    let is : x ≡ open_at (n + 1) = λ i. (more i, held.0 i) in
    let w = view_leaving v (open_at (n + 1)) in
    let one : units_of v.holds_unit ≡ 1 = ap units_of t.0 in
    leaves v n t.0 (moving max gate gate' k k' p.seat v w (n + 1) n p.view (t.3 ∙ ap bits is) (omega arith) (wrote (Leaves s) gate gate' p t.5 w (t.4 ∙ ap (view_leaving v) is)) (omega arith) refl)

shut_is : (max : ℕ) (gate gate' : Moment) → GateInvariant max gate → GateInvariant max gate' → (s : Step (Unit {0})) → PlayMade (Closes s) gate gate' → GateStep gate gate'
shut_is max gate gate' k k' s p =
    let t = p.allowed in
    let v = p.before in
    let x = t.1 in
    dite (ℕ_discrete (slice_index gate.words 0) 0)
    (λ hit.
    let is : x ≡ open_at 0 = open_word x 0 (sym t.3 ∙ hit) (omega arith) in
    let w = view_closing v (open_at 0) in
    let made = wrote (Closes s) gate gate' p t.6 w (t.4 hit ∙ ap (view_closing v) is) in
    let found : slice_index gate.words 0 ≡ bits (open_at 0) = t.3 ∙ ap bits is in
    let was = met_is max gate k (open_at 0) found (omega arith) in
    let there = subst (λ vs. get_elem? vs p.seat ≡ some w) (sym (views_after gate gate' p.seat w made)) (at_itself gate.views p.seat v w p.view) in
    let closed : k'.closed ≡ true = (k'.seats p.seat w there).1 refl in
    let count : units_held gate'.views ≡ 0 = k'.empty closed in
    closes v t.0 (seat_steps max gate gate' k' p.seat v w (open_at 0) (closed_at 0) p.view (word_met max gate k (open_at 0) was) (omega arith) made (λ i. (count i, closed i))))
    (λ miss.
    let w = view_not_closing v x in
    not_closes v x t.0 (λ e. miss (t.3 ∙ ap bits e)) (meeting max gate gate' k k' p.seat v w x p.view t.3 t.2.small (wrote (Closes s) gate gate' p t.6 w (t.5 miss)) refl refl))

pub play_is_step : (max : ℕ) (gate gate' : Moment) → GateInvariant max gate → GateInvariant max gate' → TableStep gate gate' → GateStep gate gate'
play_is_step max gate gate' k k' (by_look s p) = look_is max gate gate' k k' s p
play_is_step max gate gate' k k' (by_take_unit s p) = take_unit_is max gate gate' k k' s p
play_is_step max gate gate' k k' (by_give_back s p) = give_back_is max gate gate' k k' s p
play_is_step max gate gate' k k' (by_shut s p) = shut_is max gate gate' k k' s p
play_is_step max gate gate' k k' (by_split v seat at next) = splits v seat at
    (next ∙ ap (λ (vs : List View). (let m : Moment = record { words = gate.words; homes = gate.homes; views = vs ++ fresh_view v.max_pending ∷ [] } in m)) (set_again gate.views seat v at))

-- ## Every step is a play

-- the play of a step that changes a seat's view from v to w
play_of : (reported : Sitting → ℕ → Sitting → Type 0) (gate gate' : Moment) (v w : View) (x y : Word) (s : SeatSteps gate gate' v w x y) → reported (v, []) (bits x) (w, []) → PlayMade reported gate gate'
play_of reported gate gate' v w x y s allowed = record {
  seat = s.seat;
  before = v;
  view = s.view;
  written = bits y;
  after = w;
  act = keeps;
  valid = tt;
  allowed = subst (λ n. reported (v, []) n (w, [])) (sym (ap (λ ws. slice_index ws 0) s.word)) allowed;
  next = s.next ∙ ap (λ ws. (let m : Moment = record { words = set ws 0 (bits y); homes = gate.homes; views = set gate.views s.seat w } in m)) (sym s.word);
}

-- what the seat of a step may assume
may : (max : ℕ) (gate gate' : Moment) (k : GateInvariant max gate) (v w : View) (x y : Word) → SeatSteps gate gate' v w x y → MayMeet v x
may max gate gate' k v w x y s = subst (MayMeet v) (sym (word_found max gate gate' k v w x y s)) (may_meet max gate k s.seat v s.view)

step_is_play : (max : ℕ) (gate gate' : Moment) → GateInvariant max gate → GateStep gate gate' → TableStep gate gate'
step_is_play max gate gate' k (splits v seat at next) = by_split v seat at
    (next ∙ ap (λ (vs : List View). (let m : Moment = record { words = gate.words; homes = gate.homes; views = vs ++ fresh_view v.max_pending ∷ [] } in m)) (sym (set_again gate.views seat v at)))
step_is_play max gate gate' k (looks v x s) =
    let operands = step 0 0 0 0 none in
    let w = view_looking v x in
    by_look operands (play_of (Looks operands) gate gate' v w x x s (x, may max gate gate' k v w x x s, refl, refl, refl))
step_is_play max gate gate' k (enters v n holds_none room s) =
    let operands = step 0 0 n (n + 1) none in
    let w = view_entering v (open_at n) in
    let hit : bits (open_at n) ≡ n = omega arith in
    by_take_unit operands (play_of (Enters operands) gate gate' v w (open_at n) (open_at (n + 1)) s
    (holds_none, room, open_at n, may max gate gate' k v w (open_at n) (open_at (n + 1)) s, refl, (λ _. refl), (λ miss. absurd (miss hit)), refl))
step_is_play max gate gate' k (loses v n x holds_none room other s) =
    let operands = step 0 0 n (n + 1) none in
    let w = view_losing v x in
    let limit = k.small in
    let same_max = (k.seats s.seat v s.view).0 in
    let small : n < 2 ^ 63 = omega (arith, room, same_max, limit) in
    by_take_unit operands (play_of (Enters operands) gate gate' v w x x s
    (holds_none, room, x, may max gate gate' k v w x x s, refl, (λ hit. absurd (other (open_word x n hit small))), (λ _. refl), refl))
step_is_play max gate gate' k (leaves v n holds s) =
    let operands = step 0 0 1 0 none in
    let w = view_leaving v (open_at (n + 1)) in
    by_give_back operands (play_of (Leaves operands) gate gate' v w (open_at (n + 1)) (open_at n) s
    (holds, open_at (n + 1), may max gate gate' k v w (open_at (n + 1)) (open_at n) s, refl, refl, refl))
step_is_play max gate gate' k (closes v holds_none s) =
    let operands = step 0 0 0 (2 ^ 63) none in
    let w = view_closing v (open_at 0) in
    by_shut operands (play_of (Closes operands) gate gate' v w (open_at 0) (closed_at 0) s
    (holds_none, open_at 0, may max gate gate' k v w (open_at 0) (closed_at 0) s, refl, (λ _. refl), (λ miss. absurd (miss refl)), refl))
step_is_play max gate gate' k (not_closes v x holds_none other s) =
    let operands = step 0 0 0 (2 ^ 63) none in
    let w = view_not_closing v x in
    by_shut operands (play_of (Closes operands) gate gate' v w x x s
    (holds_none, x, may max gate gate' k v w x x s, refl, (λ hit. absurd (other (open_word x 0 hit (omega arith)))), (λ _. refl), refl))

pub step_is_of_table : (max : ℕ) (gate gate' : Moment) → GateInvariant max gate → GateStep gate gate' → TableStep gate gate' × GateInvariant max gate'
step_is_of_table max gate gate' k step = (step_is_play max gate gate' k step, keeps_invariant max gate gate' k step)
