-- What is true at every moment of a history of a gate's steps.
use Rattle.crawl_gate.proofs.Prelude.{◌≡◌, ℕ, ◌+◌, true, List, [], ◌∷◌, ◌++◌, set, sym, refl, ap, ◌∙◌, subst, arith, All, set_again, View, StepKind, Load, EnterWon, EnterLost, Leave, CloseLost, Word, bits, open_at, closed_at, units_of, units_held, knows_closed, fresh_view, view_meeting, view_entering, view_leaving, view_closing, Moment, GateInvariant, first_moment, SeatSteps, GateStep, IsHistory, splits, looks, enters, loses, leaves, closes, not_closes}
use Rattle.std.proofs.lemmas.List.Elements.{All-nil, All-cons}
use Rattle.crawl_gate.specs.GateError.{IsMaximum}
use Rattle.crawl_gate.proofs.Keeping as keeping
use Rattle.crawl_gate.proofs.Keeping.{word_of, Owed, kept, owed_meeting, owed_moving, owed_closing}

-- the word that a step of a seat finds is that of the invariant
pub word_found : (max : ℕ) (gate gate' : Moment) (k : GateInvariant max gate) (v w : View) (x y : Word) → SeatSteps gate gate' v w x y → x ≡ word_of max gate k
word_found max gate gate' k v w x y s = grind arith

-- a step that meets `Owed` keeps the invariant, at any seat
step_kept : (max : ℕ) (gate gate' : Moment) (k : GateInvariant max gate) (v w : View) (x y : Word) → SeatSteps gate gate' v w x y
    → Owed max gate k v w y → GateInvariant max gate'
step_kept max gate gate' k v w x y s owed =
    let after = λ (ws : List ℕ). (let m : Moment = record { words = set ws 0 (bits y); homes = gate.homes; views = set gate.views s.seat w } in m) in
    subst (GateInvariant max) (ap after s.word ∙ sym s.next) (kept max gate k s.seat (v, []) w y s.view owed)

-- a step that leaves the word as it is keeps the invariant
unmoved_kept : (max : ℕ) (gate gate' : Moment) (k : GateInvariant max gate) (v : View) (kind : StepKind) (x : Word) → SeatSteps gate gate' v (view_meeting v kind x) x x
    → GateInvariant max gate'
unmoved_kept max gate gate' k v kind x s =
    let is = word_found max gate gate' k v (view_meeting v kind x) x x s in
    let s' = subst (λ z. SeatSteps gate gate' v (view_meeting v kind z) z z) is s in
    step_kept max gate gate' k v (view_meeting v kind (word_of max gate k)) (word_of max gate k) (word_of max gate k) s' (owed_meeting max gate k s.seat v kind s.view)

pub keeps_invariant : (max : ℕ) (gate gate' : Moment) → GateInvariant max gate → GateStep gate gate' → GateInvariant max gate'
keeps_invariant max gate gate' k (splits v seat at next) =
    let after = λ (vs : List View). (let m : Moment = record { words = gate.words; homes = gate.homes; views = vs ++ fresh_view v.max_pending ∷ [] } in m) in
    subst (GateInvariant max) (ap after (set_again gate.views seat v at) ∙ sym next) (keeping.splits max seat v gate k at)
keeps_invariant max gate gate' k (looks v x s) = unmoved_kept max gate gate' k v Load x s
keeps_invariant max gate gate' k (loses v n x holds_none room other s) = unmoved_kept max gate gate' k v EnterLost x s
keeps_invariant max gate gate' k (not_closes v x holds_none other s) = unmoved_kept max gate gate' k v CloseLost x s
keeps_invariant max gate gate' k (enters v n holds_none room s) =
    let w = view_entering v (open_at n) in
    let is = word_found max gate gate' k v w (open_at n) (open_at (n + 1)) s in
    let count : n ≡ units_held gate.views = ap (λ z. z.0) is in
    let none_yet : units_of v.holds_unit ≡ 0 = ap units_of holds_none in
    let limit = (k.seats s.seat v s.view).0 in
    step_kept max gate gate' k v w (open_at n) (open_at (n + 1)) s
    (owed_moving max gate k s.seat v w EnterWon (n + 1) s.view (sym (ap (λ z. z.1) is)) (omega arith) (omega arith) refl refl (λ e. subst (λ z. knows_closed (view_meeting v EnterWon z) ≡ true) is e))
keeps_invariant max gate gate' k (leaves v n holds s) =
    let w = view_leaving v (open_at (n + 1)) in
    let is = word_found max gate gate' k v w (open_at (n + 1)) (open_at n) s in
    let count : n + 1 ≡ units_held gate.views = ap (λ z. z.0) is in
    let one : units_of v.holds_unit ≡ 1 = ap units_of holds in
    let within = k.within in
    step_kept max gate gate' k v w (open_at (n + 1)) (open_at n) s
    (owed_moving max gate k s.seat v w Leave n s.view (sym (ap (λ z. z.1) is)) (omega arith) (omega arith) refl refl (λ e. subst (λ z. knows_closed (view_meeting v Leave z) ≡ true) is e))
keeps_invariant max gate gate' k (closes v holds_none s) =
    let w = view_closing v (open_at 0) in
    let is = word_found max gate gate' k v w (open_at 0) (closed_at 0) s in
    step_kept max gate gate' k v w (open_at 0) (closed_at 0) s (owed_closing max gate k v (open_at 0) (sym (ap (λ z. z.0) is)))

-- the moment at which a gate is created
pub first_kept : (max : ℕ) → IsMaximum max → GateInvariant max (first_moment max)
first_kept max fits = grind arith

-- every moment after one that keeps the invariant
pub later_kept : (max : ℕ) (gate : Moment) (moments : List Moment) → GateInvariant max gate → IsHistory gate moments → All (GateInvariant max) moments
later_kept max gate [] k history = All-nil (GateInvariant max)
later_kept max gate (next ∷ later) k history =
    let k' = keeps_invariant max gate next k history.0 in
    All-cons (GateInvariant max) next later k' (later_kept max next later k' history.1)

abbrev IsShut : Moment → Type 0
IsShut gate = gate.words ≡ bits (closed_at 0) ∷ []

pub shut_for_good : (gate : Moment) (moments : List Moment) → IsShut gate → IsHistory gate moments → All IsShut moments
shut_for_good gate [] shut history = All-nil IsShut
shut_for_good gate (next ∷ later) shut history = grind (arith, shut_for_good next later)
