-- The rule of a subqueue: what is true of its messages and of all its passes between any two steps.
use Rattle.std.specs.Prelude.{◌≡◌, ℕ, true, false, List, [], ◌∷◌, ◌++◌, map}
use mathlib.Core.Option.{some}
use lib.ListN.{get_elem?}
use Rattle.crawl_gate.specs.Seat.{GateId, IsSeatOf, no_gate}
use Rattle.crawl_queues.specs.declared.entry.Entry.{Entry}
use Rattle.crawl_queues.specs.declared.entry.Message.{Message}
use Rattle.crawl_queues.specs.declared.rule.Home.{Home}
use Rattle.crawl_queues.specs.declared.rule.PassView.{PassView}
use Rattle.crawl_queues.specs.Entries.{KeepsRule}

-- the home of a pass that has none yet
abbrev pub no_home : Home
no_home = record { gate = no_gate; workers = 0; queue = 0 }

-- the view of the pass that may push, with what it sent; of the one that may pop, with what it took; of one with both rights; and
-- of one with none
abbrev pub pushing : Home → List Entry → PassView
pushing h sent = record { home = h; sends = true; sent = sent; takes = false; taken = []; empty_pops = 0 }

abbrev pub popping : Home → List Entry → ℕ → PassView
popping h taken n = record { home = h; sends = false; sent = []; takes = true; taken = taken; empty_pops = n }

abbrev pub undivided : Home → PassView
undivided h = record { home = h; sends = true; sent = []; takes = true; taken = []; empty_pops = 0 }

abbrev pub spent : PassView
spent = record { home = no_home; sends = false; sent = []; takes = false; taken = []; empty_pops = 0 }

abbrev pub plain : Message → Entry
plain m = m.entry

abbrev pub AllOfGate : GateId → List Message → Type 0
AllOfGate g [] = Unit {0}
AllOfGate g (m ∷ ms) = IsSeatOf g m.unit × AllOfGate g ms

-- the rule for one pass
pub record PassFits (home : Home) (writer reader : ℕ) (sent taken : List Entry) (id : ℕ) (v : PassView) : Type 0 where
  pub sends : v.sends ≡ true → (id ≡ writer) × (v.sent ≡ sent) × (v.home ≡ home)
  pub takes : v.takes ≡ true → (id ≡ reader) × (v.taken ≡ taken) × (v.home ≡ home)

pub record SubqueueInvariant (items : List Message) (views : List PassView) : Type 0 where
  pub home : Home
  pub writer : ℕ
  pub reader : ℕ
  pub sent : List Entry
  pub taken : List Entry
  -- what was sent is what was taken, followed by the messages in the subqueue
  pub split : sent ≡ taken ++ map plain items
  -- the URLs differ, each belongs to this subqueue, and each sender's entries are numbered in order
  pub rule : KeepsRule home.workers home.queue [] sent
  -- each message holds a unit of the gate
  pub units : AllOfGate home.gate items
  pub passes : (id : ℕ) (v : PassView) → get_elem? views id ≡ some v → PassFits home writer reader sent taken id v

abbrev pub home : GateId → ℕ → ℕ → Home
home gate workers queue = record { gate = gate; workers = workers; queue = queue }

-- the view of a pass with both rights, from those of the two passes
abbrev pub reunited : PassView → PassView → PassView
reunited v u = record { home = v.home; sends = true; sent = v.sent; takes = true; taken = u.taken; empty_pops = u.empty_pops }
