-- What contracts see of a gate and of its seats, which are its units, passes and closed passes.
use Rattle.std.specs.Prelude.{◌≡◌, ℕ, []}
use Rattle.atomic_table.specs.Seated.{TableId}
use Rattle.crawl_gate.specs.declared.rule.View.{View}
use Rattle.crawl_gate.specs.Word.{Word}
use Rattle.crawl_gate.specs.View.{opening_view, view_looking, view_entering, view_losing, view_leaving, view_closing, view_not_closing}

-- the gate's identity, and its maximum
pub record GateId : Type 0 where
  pub table : TableId
  pub max_pending : ℕ

-- the gate to which a seat belongs, its number there, and its view
pub record SeatId : Type 0 where
  pub table : TableId
  pub number : ℕ
  pub view : View

-- the seat belongs to this gate
abbrev pub IsSeatOf : GateId → SeatId → Type 0
IsSeatOf gate seat = (seat.table ≡ gate.table) × (seat.view.max_pending ≡ gate.max_pending)

-- the first seat of a new gate: a unit that is held, and has not met any word
abbrev pub IsFirstUnit : GateId → SeatId → Type 0
IsFirstUnit gate unit = (unit.table ≡ gate.table) × (unit.number ≡ 0) × (unit.view ≡ opening_view gate.max_pending)

-- the same seat with another view
abbrev pub with_view : SeatId → View → SeatId
with_view seat v = record { table = seat.table; number = seat.number; view = v }

-- the seat after a load that met the word x
abbrev pub after_looking : SeatId → Word → SeatId
after_looking seat x = with_view seat (view_looking seat.view x)

-- after an exchange for a unit, which succeeded or failed
abbrev pub after_entering : SeatId → Word → SeatId
after_entering seat x = with_view seat (view_entering seat.view x)

abbrev pub after_losing : SeatId → Word → SeatId
after_losing seat x = with_view seat (view_losing seat.view x)

-- after its unit was subtracted
abbrev pub after_leaving : SeatId → Word → SeatId
after_leaving seat x = with_view seat (view_leaving seat.view x)

-- after an exchange for the closed word, which closed the gate or failed
abbrev pub after_closing : SeatId → Word → SeatId
after_closing seat x = with_view seat (view_closing seat.view x)

abbrev pub after_not_closing : SeatId → Word → SeatId
after_not_closing seat x = with_view seat (view_not_closing seat.view x)

-- a value that identifies no gate, for a caller that must name one before it has made one
abbrev pub no_gate : GateId
no_gate = record { table = record { words = 0; slots = 0; views_name = 0; atom = 0; block = 0; offset = 0; slot_names = [] }; max_pending = 0 }
