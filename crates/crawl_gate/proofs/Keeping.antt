-- Each kind of step keeps the gate's invariant, and its seat learns what `specs/Steps.antt` states.
use Rattle.crawl_gate.proofs.Prelude.{◌≡◌, ◌≢◌, ℕ, ◌+◌, ◌-◌, ◌%◌, ◌^◌, ◌<◌, ◌≤◌, Bool, true, false, true≢false, eqb, List, [], ◌∷◌, ◌++◌, set, sym, refl, ap, ◌∙◌, subst, ◌⊎◌, ⊎_elim, arith, eq-eqb, ne_eqb, slice_index, dite, none, some, some-injective, ℕ_discrete, get_elem?, step, keeps, stepped, Allows, Splits, at_set, at_snoc, at_longer, set_else, set_again, View, StepKind, Load, EnterWon, EnterLost, Leave, CloseLost, Word, bits, closed_bit, open_at, closed_at, units_of, units_held, knows_closed, fresh_view, view_meeting, view_looking, view_entering, view_losing, view_leaving, view_closing, view_not_closing, Moment, HasCloser, GateInvariant, MayMeet, Sitting, Looks, Enters, Leaves, Closes}
use prog.Atomic.{either}
use Rattle.crawl_gate.proofs.Units.{at_itself, units_held-set, units_held-at, units_held-fresh}
use Rattle.crawl_gate.proofs.Knowing.{knows_closed-before}

-- the word of a gate that keeps the invariant
abbrev pub word_of : (max : ℕ) (gate : Moment) → GateInvariant max gate → Word
word_of max gate k = (units_held gate.views, k.closed)

-- what must be shown of a step that changes a seat's view from v to w and leaves the word x
pub record Owed (max : ℕ) (gate : Moment) (k : GateInvariant max gate) (v w : View) (x : Word) : Type 0 where
  pub counted : x.0 + units_of v.holds_unit ≡ units_held gate.views + units_of w.holds_unit
  pub within : x.0 ≤ max
  pub empty : x.1 ≡ true → x.0 ≡ 0
  pub stays : k.closed ≡ true → x.1 ≡ true
  pub closer : x.1 ≡ true → (k.closed ≡ true) ⊎ (w.closed_gate ≡ true)
  pub same_max : w.max_pending ≡ v.max_pending
  pub known : knows_closed w ≡ true → x.1 ≡ true
  pub keeps_closer : v.closed_gate ≡ true → w.closed_gate ≡ true

-- a seat that has closed the gate has still closed it after a step, its own or another seat's
pub still_closer : (views : List View) (seat : ℕ) (v w : View) → get_elem? views seat ≡ some v → (v.closed_gate ≡ true → w.closed_gate ≡ true)
    → HasCloser views → HasCloser (set views seat w)
still_closer views seat v w at stays by = dite (ℕ_discrete by.0 seat)
    (λ (same : by.0 ≡ seat).
    let is : v ≡ by.1 = some-injective v by.1 (sym at ∙ subst (λ n. get_elem? views n ≡ some by.1) same by.2) in
    (seat, w, at_itself views seat v w at, stays (subst (λ (u : View). u.closed_gate ≡ true) (sym is) by.3)))
    (λ other. (by.0, by.1, set_else views seat by.0 w other ∙ by.2, by.3))

-- a step that meets `Owed` keeps the invariant
pub kept : (max : ℕ) (gate : Moment) (k : GateInvariant max gate) (seat : ℕ) (m : Sitting) (w : View) (x : Word) → get_elem? gate.views seat ≡ some m.0
    → Owed max gate k m.0 w x → GateInvariant max (stepped gate 0 (bits x) seat m.1 w keeps)
kept max gate k seat m w x at o =
    let sum = units_held-set gate.views seat m.0 w at in
    let counted = o.counted in
    let count : x.0 ≡ units_held (set gate.views seat w) = omega arith in
    record {
      closed = x.1;
      word = ap (λ ws. set ws 0 (bits x)) k.word ∙ ap (λ n. bits (n, x.1) ∷ []) count;
      within = subst (λ n. n ≤ max) count o.within;
      small = k.small;
      empty = λ e. sym count ∙ o.empty e;
      closer = λ e. ⊎_elim
          (λ was. still_closer gate.views seat m.0 w at o.keeps_closer (k.closer was))
          (λ (mine : w.closed_gate ≡ true). (seat, w, at_itself gate.views seat m.0 w at, mine))
          (o.closer e);
      seats = λ other u e. ⊎_elim
          (λ (this : (other ≡ seat) × (w ≡ u)). subst (λ (y : View). (y.max_pending ≡ max) × (knows_closed y ≡ true → x.1 ≡ true)) this.1 (o.same_max ∙ (k.seats seat m.0 at).0, o.known))
          (λ (that : (other ≢ seat) × (get_elem? gate.views other ≡ some u)). let was = k.seats other u that.1 in (was.0, λ c. o.stays (was.1 c)))
          (at_set gate.views seat other w u e);
    }

-- a step that reads the word and does not change it
pub owed_meeting : (max : ℕ) (gate : Moment) (k : GateInvariant max gate) (seat : ℕ) (v : View) (kind : StepKind) → get_elem? gate.views seat ≡ some v
    → Owed max gate k v (view_meeting v kind (word_of max gate k)) (word_of max gate k)
owed_meeting max gate k seat v kind at = grind (arith, knows_closed-before)

-- a step that finds the gate open and leaves it open, with one unit more or one unit fewer
pub owed_moving : (max : ℕ) (gate : Moment) (k : GateInvariant max gate) (seat : ℕ) (v w : View) (kind : StepKind) (n : ℕ) → get_elem? gate.views seat ≡ some v
    → k.closed ≡ false → n + units_of v.holds_unit ≡ units_held gate.views + units_of w.holds_unit → n ≤ max
    → w.max_pending ≡ v.max_pending → w.closed_gate ≡ v.closed_gate → (knows_closed w ≡ true → knows_closed (view_meeting v kind (word_of max gate k)) ≡ true)
    → Owed max gate k v w (open_at n)
owed_moving max gate k seat v w kind n at is_open counted within same_max same_closed knew = grind (arith, knows_closed-before)

-- a step that finds no unit held and closes the gate
pub owed_closing : (max : ℕ) (gate : Moment) (k : GateInvariant max gate) (v : View) (x : Word) → units_held gate.views ≡ 0
    → Owed max gate k v (view_closing v x) (closed_at 0)
owed_closing max gate k v x none_held = grind arith

-- the number that a step finds
found : (max : ℕ) (gate : Moment) (k : GateInvariant max gate) → slice_index gate.words 0 ≡ bits (word_of max gate k)
found max gate k = ap (λ ws. slice_index ws 0) k.word

-- what every seat may assume at that word
pub may_meet : (max : ℕ) (gate : Moment) (k : GateInvariant max gate) (seat : ℕ) (v : View) → get_elem? gate.views seat ≡ some v → MayMeet v (word_of max gate k)
may_meet max gate k seat v at =
    let mine = k.seats seat v at in
    let within = k.within in
    let small = k.small in
    record {
      met = record { gate = gate; invariant = subst (λ n. GateInvariant n gate) (sym mine.0) k; seat = seat; view = at; word = k.word };
      within = omega (arith, mine.0);
      small = omega arith;
      empty = k.empty;
      holder = λ holds. let one : 0 < units_held gate.views = omega (arith, units_held-at gate.views seat v at, ap units_of holds) in (stays_open k.closed one k.empty, one);
      for_good = mine.1;
    }
  where
    stays_open : (closed : Bool) → 0 < units_held gate.views → (closed ≡ true → units_held gate.views ≡ 0) → closed ≡ false
    stays_open true one empty = absurd (omega (arith, empty refl))
    stays_open false one empty = refl

-- the invariant after such steps, stated for the word
unmoved : (max : ℕ) (gate : Moment) (k : GateInvariant max gate) (seat : ℕ) (m : Sitting) (kind : StepKind) → get_elem? gate.views seat ≡ some m.0
    → GateInvariant max (stepped gate 0 (slice_index gate.words 0) seat m.1 (view_meeting m.0 kind (word_of max gate k)) keeps)
unmoved max gate k seat m kind at =
    let x = word_of max gate k in
    let w = view_meeting m.0 kind x in
    subst (λ n. GateInvariant max (stepped gate 0 n seat m.1 w keeps)) (sym (found max gate k))
    (kept max gate k seat m w x at (owed_meeting max gate k seat m.0 kind at))

moved : (max : ℕ) (gate : Moment) (k : GateInvariant max gate) (seat : ℕ) (m : Sitting) (w : View) (kind : StepKind) (n : ℕ) → get_elem? gate.views seat ≡ some m.0
    → k.closed ≡ false → n + units_of m.0.holds_unit ≡ units_held gate.views + units_of w.holds_unit → n ≤ max
    → w.max_pending ≡ m.0.max_pending → w.closed_gate ≡ m.0.closed_gate → (knows_closed w ≡ true → knows_closed (view_meeting m.0 kind (word_of max gate k)) ≡ true)
    → GateInvariant max (stepped gate 0 (bits (open_at n)) seat m.1 w keeps)
moved max gate k seat m w kind n at is_open counted within same_max same_closed knew =
    kept max gate k seat m w (open_at n) at (owed_moving max gate k seat m.0 w kind n at is_open counted within same_max same_closed knew)

pub looks : (max slots seat : ℕ) (m : Sitting) → Allows (GateInvariant max) slots seat m 0 (λ n. n) (Looks (step slots 0 0 0 none) m)
looks max slots seat m gate k _ at _ =
    let x = word_of max gate k in (
      view_looking m.0 x,
      keeps,
      tt,
      unmoved max gate k seat m Load at,
      (x, may_meet max gate k seat m.0 at, found max gate k, refl, refl),
    )

pub splits : (max seat : ℕ) (v : View) → Splits (GateInvariant max) seat v v (fresh_view v.max_pending)
splits max seat v gate k at =
    let mine = k.seats seat v at in
    let new = fresh_view v.max_pending in
    let same = set_again gate.views seat v at in
    let count : units_held gate.views ≡ units_held (set gate.views seat v ++ new ∷ []) =
    sym (units_held-fresh (set gate.views seat v) v.max_pending ∙ ap units_held same) in
    record {
      closed = k.closed;
      word = k.word ∙ ap (λ n. bits (n, k.closed) ∷ []) count;
      within = subst (λ n. n ≤ max) count k.within;
      small = k.small;
      empty = λ e. sym count ∙ k.empty e;
      closer = λ e. let by = k.closer e in (by.0, by.1, at_longer (set gate.views seat v) (new ∷ []) by.0 by.1 (ap (λ l. get_elem? l by.0) same ∙ by.2), by.3);
      seats = λ other u e. ⊎_elim
          (λ was. k.seats other u (subst (λ l. get_elem? l other ≡ some u) same was))
          (λ (is : new ≡ u). subst (λ (y : View). (y.max_pending ≡ max) × (knows_closed y ≡ true → k.closed ≡ true)) is (mine.0, λ c. absurd (true≢false (sym c))))
          (at_snoc (set gate.views seat v) new u other e);
    }

-- a number of at most the maximum is the word of an open gate
pub is_open_at : (count n max : ℕ) (closed : Bool) → max < 2 ^ 63 → n ≤ max → count + closed_bit closed ≡ n → (closed ≡ false) × (count ≡ n)
is_open_at count n max closed small within e = grind arith

pub takes_unit : (max slots seat : ℕ) (m : Sitting) (n : ℕ) → m.0.holds_unit ≡ false → n < m.0.max_pending
    → Allows (GateInvariant max) slots seat m 0 (λ r. either (eqb r n) (n + 1) r) (Enters (step slots 0 n (n + 1) none) m)
takes_unit max slots seat m n holds_none below gate k _ at _ =
    let same_max = (k.seats seat m.0 at).0 in
    let room : n < max = omega (arith, below, same_max) in
    let x = word_of max gate k in
    let r : ℕ = slice_index gate.words 0 in
    let is = found max gate k in
    let may = may_meet max gate k seat m.0 at in
    dite (ℕ_discrete r n)
    (λ hit.
    let within : n ≤ max = omega arith in
    let shown = is_open_at (units_held gate.views) n max k.closed k.small within (sym is ∙ hit) in
    let w = view_entering m.0 x in
    let none_yet : units_of m.0.holds_unit ≡ 0 = ap units_of holds_none in
    let more : n + 1 ≡ bits (n + 1, false) = omega arith in
    let next : either (eqb r n) (n + 1) r ≡ bits (n + 1, false) = ap (λ b. either b (n + 1) r) (eq-eqb r n hit) ∙ more in (
      w,
      keeps,
      tt,
      subst (λ z. GateInvariant max (stepped gate 0 z seat m.1 w keeps)) (sym next)
          (moved max gate k seat m w EnterWon (n + 1) at shown.0 (omega (arith, shown.1)) (omega arith) refl refl (λ e. e)),
      (holds_none, below, x, may, is, (λ _. refl), (λ miss. absurd (miss hit)), refl),
    ))
    (λ miss. (
      view_losing m.0 x,
      keeps,
      tt,
      subst (λ b. GateInvariant max (stepped gate 0 (either b (n + 1) r) seat m.1 (view_losing m.0 x) keeps)) (sym (ne_eqb r n miss)) (unmoved max gate k seat m EnterLost at),
      (holds_none, below, x, may, is, (λ hit. absurd (miss hit)), (λ _. refl), refl),
    ))

-- the machine's subtraction of 1 from an open word, when a unit is held
one_less : (count max : ℕ) (closed : Bool) → count ≤ max → max < 2 ^ 63 → 0 < count → closed ≡ false
    → (count + closed_bit closed + (2 ^ 64 - 1)) % 2 ^ 64 ≡ bits (count - 1, false)
one_less count max closed within small more e = grind arith

pub gives_back : (max slots seat : ℕ) (m : Sitting) → m.0.holds_unit ≡ true
    → Allows (GateInvariant max) slots seat m 0 (λ r. (r + (2 ^ 64 - 1)) % 2 ^ 64) (Leaves (step slots 0 1 0 none) m)
gives_back max slots seat m holds gate k _ at _ =
    let x = word_of max gate k in
    let is = found max gate k in
    let may = may_meet max gate k seat m.0 at in
    let held = may.holder holds in
    let one : units_of m.0.holds_unit ≡ 1 = ap units_of holds in
    let some_held = held.1 in
    let within = k.within in
    let w = view_leaving m.0 x in
    let next : (slice_index gate.words 0 + (2 ^ 64 - 1)) % 2 ^ 64 ≡ bits (units_held gate.views - 1, false) =
    ap (λ (r : ℕ). (r + (2 ^ 64 - 1)) % 2 ^ 64) is ∙ one_less (units_held gate.views) max k.closed within k.small some_held held.0 in (
      w,
      keeps,
      tt,
      subst (λ z. GateInvariant max (stepped gate 0 z seat m.1 w keeps)) (sym next)
          (moved max gate k seat m w Leave (units_held gate.views - 1) at held.0 (omega arith) (omega arith) refl refl (λ e. e)),
      (holds, x, may, is, refl, refl),
    )

pub shuts : (max slots seat : ℕ) (m : Sitting) → m.0.holds_unit ≡ false
    → Allows (GateInvariant max) slots seat m 0 (λ r. either (eqb r 0) (2 ^ 63) r) (Closes (step slots 0 0 (2 ^ 63) none) m)
shuts max slots seat m holds_none gate k _ at _ =
    let x = word_of max gate k in
    let r : ℕ = slice_index gate.words 0 in
    let is = found max gate k in
    let may = may_meet max gate k seat m.0 at in
    dite (ℕ_discrete r 0)
    (λ hit.
    let shown = is_open_at (units_held gate.views) 0 max k.closed k.small (omega arith) (sym is ∙ hit) in
    let w = view_closing m.0 x in (
      w,
      keeps,
      tt,
      subst (λ b. GateInvariant max (stepped gate 0 (either b (2 ^ 63) r) seat m.1 w keeps)) (sym (eq-eqb r 0 hit))
          (kept max gate k seat m w (closed_at 0) at (owed_closing max gate k m.0 x shown.1)),
      (holds_none, x, may, is, (λ _. refl), (λ miss. absurd (miss hit)), refl),
    ))
    (λ miss. (
      view_not_closing m.0 x,
      keeps,
      tt,
      subst (λ b. GateInvariant max (stepped gate 0 (either b (2 ^ 63) r) seat m.1 (view_not_closing m.0 x) keeps)) (sym (ne_eqb r 0 miss)) (unmoved max gate k seat m CloseLost at),
      (holds_none, x, may, is, (λ hit. absurd (miss hit)), (λ _. refl), refl),
    ))
