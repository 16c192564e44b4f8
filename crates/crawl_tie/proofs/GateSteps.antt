-- What each step of the gate does to its word, and which steps a gate can make.
use Rattle.crawl_tie.proofs.Prelude.{◌≡◌, ℕ, ◌+◌, ◌<◌, ◌^◌, [], ◌∷◌, ap, arith, View, Word, bits, open_at, closed_at, Moment, GateInvariant, SeatSteps, GateStep, Splitting, Looking, Entering, Losing, Leaving, Closing, NotClosing, GateMoves, splitting_one, looking_one, entering_one, losing_one, leaving_one, closing_one, not_closing_one}
use Rattle.crawl_gate.specs.History.GateStep.{splits, looks, enters, loses, leaves, closes, not_closes}

-- one step of the gate, from the word x to the word y
pub record Goes (gate gate' : Moment) (x y : Word) : Type 0 where
  pub step : GateStep gate gate'
  pub from : gate.words ≡ bits x ∷ []
  pub to : gate'.words ≡ bits y ∷ []
  pub small : x.0 < 2 ^ 63

goes : (gate gate' : Moment) (v w : View) (x y : Word) → SeatSteps gate gate' v w x y → GateStep gate gate' → Goes gate gate' x y
goes gate gate' v w x y s step = record { step = step; from = s.word; to = ap (λ (m : Moment). m.words) s.next; small = s.small }

pub looked : (gate gate' : Moment) (x : Word) → Looking gate gate' x → Goes gate gate' x x
looked gate gate' x s = goes gate gate' _ _ x x s.steps (looks s.view x s.steps)

pub entered : (gate gate' : Moment) (n : ℕ) → Entering gate gate' n → Goes gate gate' (open_at n) (open_at (n + 1))
entered gate gate' n s = goes gate gate' _ _ (open_at n) (open_at (n + 1)) s.steps (enters s.view n s.holds_none s.room s.steps)

pub lost : (gate gate' : Moment) (n : ℕ) (x : Word) → Losing gate gate' n x → Goes gate gate' x x
lost gate gate' n x s = goes gate gate' _ _ x x s.steps (loses s.view n x s.holds_none s.room s.other s.steps)

pub left : (gate gate' : Moment) (n : ℕ) → Leaving gate gate' n → Goes gate gate' (open_at (n + 1)) (open_at n)
left gate gate' n s = goes gate gate' _ _ (open_at (n + 1)) (open_at n) s.steps (leaves s.view n s.holds s.steps)

pub closed : (gate gate' : Moment) → Closing gate gate' → Goes gate gate' (open_at 0) (closed_at 0)
closed gate gate' s = goes gate gate' _ _ (open_at 0) (closed_at 0) s.steps (closes s.view s.holds_none s.steps)

pub not_closed : (gate gate' : Moment) (x : Word) → NotClosing gate gate' x → Goes gate gate' x x
not_closed gate gate' x s = goes gate gate' _ _ x x s.steps (not_closes s.view x s.holds_none s.other s.steps)

pub split_off : (gate gate' : Moment) → Splitting gate gate' → GateStep gate gate'
split_off gate gate' s = splits s.view s.seat s.at s.next

-- if a step enters, the count was below the maximum
pub entered_below : (max : ℕ) (gate gate' : Moment) (n : ℕ) → GateInvariant max gate → Entering gate gate' n → n < max
entered_below max gate gate' n k s = let same = (k.seats s.steps.seat s.view s.steps.view).0 in let room = s.room in omega (arith, same, room)

pub gate_moves : (gate gate' : Moment) → GateStep gate gate' → GateMoves gate gate'
gate_moves gate gate' (splits v seat at is) = splitting_one (record { view = v; seat = seat; at = at; next = is })
gate_moves gate gate' (looks v x s) = looking_one x (record { view = v; steps = s })
gate_moves gate gate' (enters v n none room s) = entering_one n (record { view = v; holds_none = none; room = room; steps = s })
gate_moves gate gate' (loses v n x none room other s) = losing_one n x (record { view = v; holds_none = none; room = room; other = other; steps = s })
gate_moves gate gate' (leaves v n holds s) = leaving_one n (record { view = v; holds = holds; steps = s })
gate_moves gate gate' (closes v none s) = closing_one (record { view = v; holds_none = none; steps = s })
gate_moves gate gate' (not_closes v x none other s) = not_closing_one x (record { view = v; holds_none = none; other = other; steps = s })
