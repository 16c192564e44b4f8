-- The values of the gate's word that a call to enter reads, by the result of the call.
use Rattle.std.specs.Prelude.{◌≡◌, ◌≢◌, ℕ, ◌<◌, false, List, [], ◌∷◌}
use Rattle.crawl_gate.specs.declared.rule.View.{View}
use Rattle.crawl_gate.specs.declared.gate.enter.Enter.{Enter}
use Rattle.crawl_gate.specs.declared.gate.enter.Enter.TheVariants.{Entered, Closed, Full, Lost}
use Rattle.crawl_gate.specs.Word.{Word, open_at, closed_at}
use Rattle.crawl_gate.specs.View.{knows_closed, view_looking, view_losing}
use Rattle.crawl_gate.specs.Seat.{GateId, SeatId, IsSeatOf, with_view, after_looking, after_entering, after_losing}

-- One try to enter with a pass. If its load reads a closed word, or an open word with the maximum count, that is the result.
-- Otherwise its exchange reads the same word again and enters, or it reads another word and the try is lost.
abbrev pub TriesToEnter : SeatId → Enter → Type 0
TriesToEnter pass (Entered unit) =
    (n : ℕ) × (n < pass.view.max_pending) × (knows_closed pass.view ≡ false)
    × (unit ≡ after_entering (after_looking pass (open_at n)) (open_at n))
TriesToEnter pass (Closed back) = back ≡ after_looking pass (closed_at 0)
TriesToEnter pass (Full back) = (knows_closed pass.view ≡ false) × (back ≡ after_looking pass (open_at pass.view.max_pending))
TriesToEnter pass (Lost back) =
    (n : ℕ) × (x : Word) × (n < pass.view.max_pending) × (knows_closed pass.view ≡ false) × (x ≢ open_at n)
    × (back ≡ after_losing (after_looking pass (open_at n)) x)

-- One try while another seat holds a unit: that seat makes the load, so the gate is open, and the pass makes only the exchange, if any.
abbrev pub TriesToEnterHolding : SeatId → SeatId → SeatId → Enter → Type 0
TriesToEnterHolding held held' pass (Entered unit) =
    (n : ℕ) × (n < pass.view.max_pending) × (held' ≡ after_looking held (open_at n)) × (unit ≡ after_entering pass (open_at n))
TriesToEnterHolding held held' pass (Closed back) = ⊥
TriesToEnterHolding held held' pass (Full back) = (held' ≡ after_looking held (open_at pass.view.max_pending)) × (back ≡ pass)
TriesToEnterHolding held held' pass (Lost back) =
    (n : ℕ) × (x : Word) × (n < pass.view.max_pending) × (x ≢ open_at n)
    × (held' ≡ after_looking held (open_at n)) × (back ≡ after_losing pass x)

-- a lost try: the count that its load read, and the word that its exchange read
abbrev pub LostTry : Type 0
LostTry = ℕ × Word

-- each load read an open word below the maximum, and each exchange read a word other than its load
abbrev pub AllLost : ℕ → List LostTry → Type 0
AllLost max [] = Unit {0}
AllLost max (t ∷ ts) = (t.0 < max) × (t.1 ≢ open_at t.0) × AllLost max ts

-- the view of a seat that made both steps of each of these tries
abbrev pub view_trying : View → List LostTry → View
view_trying v [] = v
view_trying v (t ∷ ts) = view_trying (view_losing (view_looking v (open_at t.0)) t.1) ts

-- the view of a seat that only made the loads
abbrev pub view_loading : View → List LostTry → View
view_loading v [] = v
view_loading v (t ∷ ts) = view_loading (view_looking v (open_at t.0)) ts

-- the view of a seat that only made the exchanges
abbrev pub view_exchanging : View → List LostTry → View
view_exchanging v [] = v
view_exchanging v (t ∷ ts) = view_exchanging (view_losing v t.1) ts

abbrev pub after_trying : SeatId → List LostTry → SeatId
after_trying seat ts = with_view seat (view_trying seat.view ts)

abbrev pub after_loading : SeatId → List LostTry → SeatId
after_loading seat ts = with_view seat (view_loading seat.view ts)

abbrev pub after_exchanging : SeatId → List LostTry → SeatId
after_exchanging seat ts = with_view seat (view_exchanging seat.view ts)

abbrev pub IsLost : Enter → Type 0
IsLost (Entered unit) = ⊥
IsLost (Closed back) = ⊥
IsLost (Full back) = ⊥
IsLost (Lost back) = Unit {0}

abbrev pub IsClosed : Enter → Type 0
IsClosed (Entered unit) = ⊥
IsClosed (Closed back) = Unit {0}
IsClosed (Full back) = ⊥
IsClosed (Lost back) = ⊥

-- any number of lost tries, and then one that is not lost
abbrev pub EntersAtLast : SeatId → Enter → Type 0
EntersAtLast pass outcome =
    (ts : List LostTry) × AllLost pass.view.max_pending ts × TriesToEnter (after_trying pass ts) outcome × ¬ IsLost outcome

-- likewise while another seat holds a unit
abbrev pub EntersAtLastHolding : SeatId → SeatId → SeatId → Enter → Type 0
EntersAtLastHolding held held' pass outcome =
    (ts : List LostTry) × AllLost pass.view.max_pending ts
    × TriesToEnterHolding (after_loading held ts) held' (after_exchanging pass ts) outcome × ¬ IsLost outcome

-- the seat that is returned is one of this gate
abbrev pub GivesSeatOf : GateId → Enter → Type 0
GivesSeatOf gate (Entered unit) = IsSeatOf gate unit
GivesSeatOf gate (Closed back) = IsSeatOf gate back
GivesSeatOf gate (Full back) = IsSeatOf gate back
GivesSeatOf gate (Lost back) = IsSeatOf gate back
