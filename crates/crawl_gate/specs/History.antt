-- The kinds of a gate's steps, what each changes, and histories of such steps.
use Rattle.std.specs.Prelude.{Option, Some, None, ◌≡◌, ◌≢◌, ℕ, ◌+◌, ◌<◌, true, false, List, [], ◌∷◌, ◌++◌, slice_set}
use mathlib.Core.Option.{some}
use lib.ListN.{get_elem?}
use Rattle.crawl_gate.specs.declared.rule.View.{View}
use Rattle.crawl_gate.specs.declared.step_kind.StepKind.{StepKind}
use Rattle.crawl_gate.specs.declared.step_kind.StepKind.TheVariants.{Load, EnterWon, EnterLost, Leave, CloseWon, CloseLost}
use Rattle.crawl_gate.specs.Word.{Word, top_bit, bits, open_at, closed_at}
use Rattle.crawl_gate.specs.View.{opening_view, fresh_view, view_looking, view_entering, view_losing, view_leaving, view_closing, view_not_closing}
use Rattle.crawl_gate.specs.GateInvariant.{Moment}

-- the moment at which a gate is made
abbrev pub first_moment : ℕ → Moment
first_moment max = record { words = bits (open_at 1) ∷ []; homes = []; views = opening_view max ∷ [] }

-- a step of one seat: its view changes from v to w, and the word from x to y
pub record SeatSteps (gate gate' : Moment) (v w : View) (x y : Word) : Type 0 where
  pub seat : ℕ
  pub view : get_elem? gate.views seat ≡ some v
  pub word : gate.words ≡ bits x ∷ []
  pub small : x.0 < top_bit
  pub next : gate' ≡ record { words = bits y ∷ []; homes = gate.homes; views = slice_set gate.views seat w }

-- A split adds the view of a new pass. Every other step changes only the view of the seat that makes it, and adds its kind to that
-- view. A load, and an exchange that fails, do not change the word.
pub data GateStep (gate gate' : Moment) : Type 0 where
  splits : (v : View) (seat : ℕ) → get_elem? gate.views seat ≡ some v
      → gate' ≡ record { words = gate.words; homes = gate.homes; views = gate.views ++ fresh_view v.max_pending ∷ [] } → GateStep gate gate'
  looks : (v : View) (x : Word) → SeatSteps gate gate' v (view_looking v x) x x → GateStep gate gate'
  enters : (v : View) (n : ℕ) → v.holds_unit ≡ false → n < v.max_pending
      → SeatSteps gate gate' v (view_entering v (open_at n)) (open_at n) (open_at (n + 1)) → GateStep gate gate'
  loses : (v : View) (n : ℕ) (x : Word) → v.holds_unit ≡ false → n < v.max_pending → x ≢ open_at n
      → SeatSteps gate gate' v (view_losing v x) x x → GateStep gate gate'
  leaves : (v : View) (n : ℕ) → v.holds_unit ≡ true
      → SeatSteps gate gate' v (view_leaving v (open_at (n + 1))) (open_at (n + 1)) (open_at n) → GateStep gate gate'
  closes : (v : View) → v.holds_unit ≡ false
      → SeatSteps gate gate' v (view_closing v (open_at 0)) (open_at 0) (closed_at 0) → GateStep gate gate'
  not_closes : (v : View) (x : Word) → v.holds_unit ≡ false → x ≢ open_at 0
      → SeatSteps gate gate' v (view_not_closing v x) x x → GateStep gate gate'

-- the kind of a step; a split has none, since it is in no view
abbrev pub kind_of : (gate gate' : Moment) → GateStep gate gate' → Option StepKind
kind_of gate gate' (splits v seat at next) = None
kind_of gate gate' (looks v x s) = Some Load
kind_of gate gate' (enters v n holds_none room s) = Some EnterWon
kind_of gate gate' (loses v n x holds_none room other s) = Some EnterLost
kind_of gate gate' (leaves v n holds s) = Some Leave
kind_of gate gate' (closes v holds_none s) = Some CloseWon
kind_of gate gate' (not_closes v x holds_none other s) = Some CloseLost

-- how a step of this kind changes the word from x to y
abbrev pub WordGoes : Option StepKind → Word → Word → Type 0
WordGoes (Some EnterWon) x y = (n : ℕ) × (x ≡ open_at n) × (y ≡ open_at (n + 1))
WordGoes (Some Leave) x y = (n : ℕ) × (x ≡ open_at (n + 1)) × (y ≡ open_at n)
WordGoes (Some CloseWon) x y = (x ≡ open_at 0) × (y ≡ closed_at 0)
WordGoes (Some Load) x y = x ≡ y
WordGoes (Some EnterLost) x y = x ≡ y
WordGoes (Some CloseLost) x y = x ≡ y
WordGoes None x y = x ≡ y

-- only one view changes: it gains this kind of step and the word x
pub record GainsMet (gate gate' : Moment) (kind : StepKind) (x : Word) : Type 0 where
  pub seat : ℕ
  pub before : View
  pub after : View
  pub at : get_elem? gate.views seat ≡ some before
  pub views : gate'.views ≡ slice_set gate.views seat after
  pub met : after.met ≡ before.met ++ (kind, x) ∷ []

-- how a step of this kind changes the views: a split adds one, and changes no other
abbrev pub ViewsGo : (gate gate' : Moment) → Option StepKind → Word → Type 0
ViewsGo gate gate' (Some kind) x = GainsMet gate gate' kind x
ViewsGo gate gate' None x = (v : View) × (gate'.views ≡ gate.views ++ v ∷ [])

-- the step changes the word from x to y, and a u64 can represent both
pub record GateGoes (gate gate' : Moment) (step : GateStep gate gate') (x y : Word) : Type 0 where
  pub from : gate.words ≡ bits x ∷ []
  pub to : gate'.words ≡ bits y ∷ []
  pub small : x.0 < top_bit
  pub small' : y.0 < top_bit
  pub word : WordGoes (kind_of gate gate' step) x y
  pub views : ViewsGo gate gate' (kind_of gate gate' step) x

-- each of these moments comes from the one before it by one step, beginning with this moment
abbrev pub IsHistory : Moment → List Moment → Type 0
IsHistory gate [] = Unit {0}
IsHistory gate (next ∷ later) = GateStep gate next × IsHistory next later
