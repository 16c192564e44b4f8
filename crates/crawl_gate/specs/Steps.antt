-- What a seat learns from each kind of step: the word x that the step met, and the seat's view after it.
use Rattle.std.specs.Prelude.{◌≡◌, ◌≢◌, ℕ, ◌<◌, true, false}
use Rattle.atomic_table.specs.Table.{Step, Me}
use Rattle.crawl_gate.specs.declared.rule.View.{View}
use Rattle.crawl_gate.specs.Word.{Word, bits}
use Rattle.crawl_gate.specs.View.{fresh_view, view_looking, view_entering, view_losing, view_leaving, view_closing, view_not_closing}
use Rattle.crawl_gate.specs.GateInvariant.{MayMeet}

-- a seat: its view, and a list of slots, which is empty for a gate
abbrev pub Sitting : Type 0
Sitting = Me (Unit {0}) View

-- a load
abbrev pub Looks : Step (Unit {0}) → Sitting → ℕ → Sitting → Type 0
Looks step before found after = (x : Word) × MayMeet before.0 x × (found ≡ bits x) × (after.0 ≡ view_looking before.0 x) × (after.1 ≡ before.1)

-- a pass's exchange for one more unit, below the maximum; it succeeds if it meets the word that it expects
abbrev pub Enters : Step (Unit {0}) → Sitting → ℕ → Sitting → Type 0
Enters step before found after =
    (before.0.holds_unit ≡ false) × (step.first < before.0.max_pending) × (x : Word) × MayMeet before.0 x × (found ≡ bits x)
    × (found ≡ step.first → after.0 ≡ view_entering before.0 x) × (found ≢ step.first → after.0 ≡ view_losing before.0 x) × (after.1 ≡ before.1)

-- a unit's subtraction of itself
abbrev pub Leaves : Step (Unit {0}) → Sitting → ℕ → Sitting → Type 0
Leaves step before found after =
    (before.0.holds_unit ≡ true) × (x : Word) × MayMeet before.0 x × (found ≡ bits x) × (after.0 ≡ view_leaving before.0 x) × (after.1 ≡ before.1)

-- a pass's exchange of 0 for the closed word
abbrev pub Closes : Step (Unit {0}) → Sitting → ℕ → Sitting → Type 0
Closes step before found after =
    (before.0.holds_unit ≡ false) × (x : Word) × MayMeet before.0 x × (found ≡ bits x)
    × (found ≡ 0 → after.0 ≡ view_closing before.0 x) × (found ≢ 0 → after.0 ≡ view_not_closing before.0 x) × (after.1 ≡ before.1)

-- a split: the view of the seat after it, and that of the new pass, which knows only the maximum
abbrev pub view_split : View → View
view_split v = v

abbrev pub view_split_off : View → View
view_split_off v = fresh_view v.max_pending
