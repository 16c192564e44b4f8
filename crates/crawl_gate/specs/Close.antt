-- The word that a closing call meets, by its result.
use Rattle.std.specs.Prelude.{◌≡◌, ◌⊎◌, ◌<◌, ◌≤◌, true, false}
use Rattle.crawl_gate.specs.declared.gate.close.Close.{Close}
use Rattle.crawl_gate.specs.declared.gate.close.Close.TheVariants.{Closed, Pending}
use Rattle.crawl_gate.specs.Word.{open_at, closed_at}
use Rattle.crawl_gate.specs.View.{knows_closed}
use Rattle.crawl_gate.specs.Seat.{GateId, SeatId, IsSeatOf, after_closing, after_not_closing}

-- The exchange meets count 0 and closes the gate, or it meets the gate closed, or it meets an open gate with units held.
abbrev pub TriesToClose : SeatId → Close → Type 0
TriesToClose pass (Closed closed) = (closed ≡ after_closing pass (open_at 0)) ⊎ (closed ≡ after_not_closing pass (closed_at 0))
TriesToClose pass (Pending back n) =
    (0 < n) × (n ≤ pass.view.max_pending) × (knows_closed pass.view ≡ false) × (back ≡ after_not_closing pass (open_at n))

-- the seat of the result Closed has met the gate closed, and so meets it closed from then on
abbrev pub ReportsClosed : Close → Type 0
ReportsClosed (Closed closed) = knows_closed closed.view ≡ true
ReportsClosed (Pending back n) = Unit {0}

abbrev pub IsClosed : Close → Type 0
IsClosed (Closed closed) = Unit {0}
IsClosed (Pending back n) = ⊥

-- the seat that is returned is one of this gate
abbrev pub ClosesSeatOf : GateId → Close → Type 0
ClosesSeatOf gate (Closed closed) = IsSeatOf gate closed
ClosesSeatOf gate (Pending back n) = IsSeatOf gate back
