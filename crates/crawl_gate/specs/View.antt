-- What a seat knows about its gate, and how each kind of step changes that.
use Rattle.std.specs.Prelude.{ℕ, ◌+◌, Bool, true, false, List, [], ◌∷◌, ◌++◌, ◌||◌}
use Rattle.crawl_gate.specs.declared.rule.View.{View}
use Rattle.crawl_gate.specs.declared.step_kind.StepKind.{StepKind}
use Rattle.crawl_gate.specs.declared.step_kind.StepKind.TheVariants.{Load, EnterWon, EnterLost, Leave, CloseWon, CloseLost}
use Rattle.crawl_gate.specs.Word.{Word}

-- a step that a seat made: its kind, and the word that it met
abbrev pub Met : Type 0
Met = StepKind × Word

-- one of the words is closed
abbrev pub any_closed : List Met → Bool
any_closed [] = false
any_closed (m ∷ ms) = m.1.1 || any_closed ms

-- the view of the unit that comes with a new gate
abbrev pub opening_view : ℕ → View
opening_view max = record { max_pending = max; holds_unit = true; closed_gate = false; met = [] }

-- the view of a pass that was just split off
abbrev pub fresh_view : ℕ → View
fresh_view max = record { max_pending = max; holds_unit = false; closed_gate = false; met = [] }

-- the seat has closed the gate, or met it closed
abbrev pub knows_closed : View → Bool
knows_closed v = v.closed_gate || any_closed v.met

-- a step of this kind met the word x, and changed nothing else
abbrev pub view_meeting : View → StepKind → Word → View
view_meeting v kind x = record { max_pending = v.max_pending; holds_unit = v.holds_unit; closed_gate = v.closed_gate; met = v.met ++ (kind, x) ∷ [] }

-- a load met the word x
abbrev pub view_looking : View → Word → View
view_looking v x = view_meeting v Load x

-- an exchange met the word x, and took a unit
abbrev pub view_entering : View → Word → View
view_entering v x = record { max_pending = v.max_pending; holds_unit = true; closed_gate = v.closed_gate; met = v.met ++ (EnterWon, x) ∷ [] }

-- an exchange for a unit met the word x, which is not the one that it expected
abbrev pub view_losing : View → Word → View
view_losing v x = view_meeting v EnterLost x

-- a subtraction met the word x, and gave the unit back
abbrev pub view_leaving : View → Word → View
view_leaving v x = record { max_pending = v.max_pending; holds_unit = false; closed_gate = v.closed_gate; met = v.met ++ (Leave, x) ∷ [] }

-- an exchange met the word x, and closed the gate
abbrev pub view_closing : View → Word → View
view_closing v x = record { max_pending = v.max_pending; holds_unit = v.holds_unit; closed_gate = true; met = v.met ++ (CloseWon, x) ∷ [] }

-- an exchange that was to close the gate met the word x, and failed
abbrev pub view_not_closing : View → Word → View
view_not_closing v x = view_meeting v CloseLost x

-- the number of units of one seat
abbrev pub units_of : Bool → ℕ
units_of true = 1
units_of false = 0

-- the number of seats that hold a unit. The view of a seat that was dropped stays, so its unit counts as held
abbrev pub units_held : List View → ℕ
units_held [] = 0
units_held (v ∷ vs) = units_of v.holds_unit + units_held vs
