-- What is true of a gate between any two steps, and what follows for a seat that makes a step.
use Rattle.std.specs.Prelude.{◌≡◌, ℕ, ◌<◌, ◌≤◌, Bool, true, false, List, [], ◌∷◌}
use mathlib.Core.Option.{some}
use lib.ListN.{get_elem?}
use Rattle.atomic_table.specs.Table.{State}
use Rattle.crawl_gate.specs.declared.rule.View.{View}
use Rattle.crawl_gate.specs.Word.{Word, top_bit, bits}
use Rattle.crawl_gate.specs.View.{units_held, knows_closed}

-- a gate at one moment: its word, and the views of all its seats
abbrev pub Moment : Type 0
Moment = State (Unit {0}) View

-- the view of some seat says that a step of its own closed the gate
abbrev pub HasCloser : List View → Type 0
HasCloser views = (seat : ℕ) × (v : View) × (get_elem? views seat ≡ some v) × (v.closed_gate ≡ true)

pub record GateInvariant (max : ℕ) (gate : Moment) : Type 0 where
  pub closed : Bool
  -- the count is the number of units that are held, including dropped ones
  pub word : gate.words ≡ bits (units_held gate.views, closed) ∷ []
  -- the count is at most the maximum, which leaves bit 63 free
  pub within : units_held gate.views ≤ max
  pub small : max < top_bit
  -- the gate is closed only while the count is 0
  pub empty : closed ≡ true → units_held gate.views ≡ 0
  -- and only if a seat closed it
  pub closer : closed ≡ true → HasCloser gate.views
  -- every seat has the maximum in its view, and the gate is closed if a seat has closed it or met it closed
  pub seats : (seat : ℕ) (v : View) → get_elem? gate.views seat ≡ some v → (v.max_pending ≡ max) × (knows_closed v ≡ true → closed ≡ true)

-- x is the word of a gate that keeps the invariant, at a moment at which a seat has the view v
pub record WordMet (v : View) (x : Word) : Type 0 where
  pub gate : Moment
  pub invariant : GateInvariant v.max_pending gate
  pub seat : ℕ
  pub view : get_elem? gate.views seat ≡ some v
  pub word : gate.words ≡ bits x ∷ []

-- what follows for a seat with the view v that meets the word x
pub record MayMeet (v : View) (x : Word) : Type 0 where
  pub met : WordMet v x
  pub within : x.0 ≤ v.max_pending
  pub small : x.0 < top_bit
  pub empty : x.1 ≡ true → x.0 ≡ 0
  -- a seat that holds a unit meets an open gate, and its unit is counted
  pub holder : v.holds_unit ≡ true → (x.1 ≡ false) × (0 < x.0)
  -- a closed gate stays closed
  pub for_good : knows_closed v ≡ true → x.1 ≡ true
