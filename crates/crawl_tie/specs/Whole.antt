-- A whole frontier at one moment: its gate, its subqueues, and the owner of each unit.
use Rattle.std.specs.Prelude.{◌≡◌, ℕ, Bool, true, false, List, [], ◌∷◌, length, Option, Some, slice_get}
use Rattle.crawl_core.specs.declared.word.Word.{Word}
use Rattle.crawl_gate.specs.GateInvariant as gates
use Rattle.crawl_gate.specs.History.{first_moment}
use Rattle.crawl_gate.specs.Seat.{GateId}
use Rattle.crawl_queues.specs.declared.rule.Home.{Home}
use Rattle.crawl_queues.specs.Rule.{pushing, popping, spent, home}
use Rattle.crawl_queues.specs.History as subqueues

-- the owner of a seat's unit: the seeds, an offer of this sender, or an entry that was sent to this subqueue
pub data Owner : Type 0 where
  Seeds : Owner
  Offer : ℕ → Owner
  Sent : ℕ → Owner

-- a subqueue: its messages and the views of its passes, and whether the URL that was popped last is still being fetched
pub record Lane : Type 0 where
  pub moment : subqueues.Moment
  pub fetching : Bool

-- In addition to the gate and the subqueues, what is known of the calls in progress: for each seat of the gate the owner of its
-- unit, if it holds one; the ids of the senders in an offer that has entered, in ascending order; the word that each sender loaded
-- last, unless it has entered since; and whether the seeds hold a unit. The maximum never changes.
pub record Whole : Type 0 where
  pub gate : gates.Moment
  pub lanes : List Lane
  pub owners : List (Option Owner)
  pub offering : List ℕ
  pub loaded : List (ℕ × Word)
  pub seeding : Bool
  pub max : ℕ

-- a subqueue when it is made: one pass may push, and one may pop
abbrev pub made : Home → subqueues.Moment
made h = record { items = []; views = pushing h [] ∷ spent ∷ popping h [] 0 ∷ [] }

abbrev pub fresh_lane : GateId → ℕ → ℕ → Lane
fresh_lane gate workers q = record { moment = made (home gate workers q); fetching = false }

-- a new frontier: every subqueue is empty, and the seeds hold a unit
pub record IsFirst (gate : GateId) (workers : ℕ) (w : Whole) : Type 0 where
  pub gate_is : w.gate ≡ first_moment gate.max_pending
  pub len : length w.lanes ≡ workers
  pub lanes : (q : ℕ) (l : Lane) → slice_get w.lanes q ≡ Some l → l ≡ fresh_lane gate workers q
  pub owners : w.owners ≡ Some Seeds ∷ []
  pub offering : w.offering ≡ []
  pub loaded : w.loaded ≡ []
  pub seeding : w.seeding ≡ true
  pub max : w.max ≡ gate.max_pending
