-- The rule of a list that only grows: what is true of all its seats between any two steps.
use Rattle.std.specs.Prelude.{◌≡◌, ℕ, true, false, List, [], ◌∷◌, ◌++◌, Some, slice_get}
use mathlib.Core.Option.{some}
use lib.ListN.{get_elem?}
use Rattle.atomic_table.specs.Table.{State, Me}
use Rattle.crawl_queues.specs.declared.entry.Entry.{Entry}
use Rattle.crawl_queues.specs.declared.growing.rule.ListView.{ListView}

abbrev pub no_entry : Entry
no_entry = record { url = []; sender = 0; number = 0; hops = 0 }

-- the view of a seat that owns the list and has a beginning of it; of one that owns it and has none; and of one that only knows a
-- beginning
abbrev pub holding : List Entry → List Entry → ListView
holding all begins = record { owns = true; all = all; begins = begins }

abbrev pub owning : List Entry → ListView
owning all = holding all []

abbrev pub beginning : List Entry → ListView
beginning begins = record { owns = false; all = []; begins = begins }

-- each element of the one list is at the same index in the other
abbrev pub Stays : {X : Type 0} → List X → List X → Type 0
Stays before after = (k : ℕ) (x : _) → slice_get before k ≡ Some x → slice_get after k ≡ Some x

-- for one seat: if it is an owner, it is the only one and knows the list; and its beginning, if it has one, is in the list
abbrev pub Fits : ℕ → List Entry → ℕ → ListView → Type 0
Fits owner list seat v = (v.owns ≡ true → (seat ≡ owner) × (v.all ≡ list)) × Stays v.begins list

abbrev pub Grows : State (Unit {0}) ListView → Type 0
Grows table = (owner : ℕ) × (list : List Entry) × ((seat : ℕ) (v : ListView) → get_elem? table.views seat ≡ some v → Fits owner list seat v)

-- the owner's view before and after: the entry was added to the list's end
abbrev pub Adding : Entry → Me (Unit {0}) ListView → Me (Unit {0}) ListView → Type 0
Adding e before after = (after.0 ≡ owning (before.0.all ++ e ∷ [])) × (after.1 ≡ before.1)

-- the owner gives up the beginning that it has, and learns that all of it is in the list
abbrev pub Compares : Me (Unit {0}) ListView → Me (Unit {0}) ListView → Type 0
Compares before after = Stays before.0.begins before.0.all × (after.0 ≡ owning before.0.all) × (after.1 ≡ before.1)
