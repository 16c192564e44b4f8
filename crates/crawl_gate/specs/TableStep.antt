-- The steps that the gate's table allows to a seat: the plays and the split of `src/rule.rt`.
use Rattle.std.specs.Prelude.{◌≡◌, ℕ, [], ◌∷◌, ◌++◌, slice_index, slice_set}
use mathlib.Core.Option.{some}
use lib.ListN.{get_elem?}
use Rattle.atomic_table.specs.Table.{Step, Act, Valid, carried_after, stepped}
use Rattle.crawl_gate.specs.declared.rule.View.{View}
use Rattle.crawl_gate.specs.GateInvariant.{Moment}
use Rattle.crawl_gate.specs.Steps.{Sitting, Looks, Enters, Leaves, Closes, view_split, view_split_off}

-- What the table allows in a play with the fact `fact` (`Allows` of `atomic_table`): a seat without slots finds a number and writes
-- any number, and its new view and an act fulfil `fact`.
pub record PlayMade (fact : Sitting → ℕ → Sitting → Type 0) (gate gate' : Moment) : Type 0 where
  pub seat : ℕ
  pub before : View
  pub view : get_elem? gate.views seat ≡ some before
  pub written : ℕ
  pub after : View
  pub act : Act (Unit {0})
  pub valid : Valid gate.homes [] act
  pub allowed : fact (before, []) (slice_index gate.words 0) (after, carried_after [] act)
  pub next : gate' ≡ stepped gate 0 written seat [] after act

-- one of the four plays, with any operands, or a split
pub data TableStep (gate gate' : Moment) : Type 0 where
  by_look : (operands : Step (Unit {0})) → PlayMade (Looks operands) gate gate' → TableStep gate gate'
  by_take_unit : (operands : Step (Unit {0})) → PlayMade (Enters operands) gate gate' → TableStep gate gate'
  by_give_back : (operands : Step (Unit {0})) → PlayMade (Leaves operands) gate gate' → TableStep gate gate'
  by_shut : (operands : Step (Unit {0})) → PlayMade (Closes operands) gate gate' → TableStep gate gate'
  by_split : (v : View) (seat : ℕ) → get_elem? gate.views seat ≡ some v
      → gate' ≡ record { words = gate.words; homes = gate.homes; views = slice_set gate.views seat (view_split v) ++ view_split_off v ∷ [] } → TableStep gate gate'
