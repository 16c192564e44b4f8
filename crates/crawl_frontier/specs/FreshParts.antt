-- The subqueues of a new frontier, with their rights.
use Rattle.std.specs.Prelude.{◌≡◌, ℕ, ◌+◌, List, [], ◌∷◌, length, Some, slice_get}
use Rattle.crawl_queues.specs.QueueId.{QueueId}
use Rattle.crawl_gate.specs.Seat.{GateId}
use Rattle.crawl_queues.specs.PassId.{PassId}
use Rattle.crawl_gate.specs.View.{fresh_view}
use Rattle.crawl_queues.specs.Rule.{pushing, popping, home}
use Rattle.crawl_frontier.specs.Parts.{WorkerId}
use Rattle.crawl_queues.specs.Books.{fresh_book}

-- the first n subqueues, each with an unused right to push and an unused right to pop
pub record Line (gate : GateId) (workers : ℕ) (queues : List QueueId) (sending taking : List PassId) (n : ℕ) : Type 0 where
  pub queues_len : length queues ≡ n
  pub sending_len : length sending ≡ n
  pub taking_len : length taking ≡ n
  pub sends : (k : ℕ) (q : QueueId) (p : PassId) → slice_get queues k ≡ Some q → slice_get sending k ≡ Some p → (p.subqueue ≡ q) × (p.view ≡ pushing (home gate workers k) [])
  pub takes : (k : ℕ) (q : QueueId) (p : PassId) → slice_get queues k ≡ Some q → slice_get taking k ≡ Some p → (p.subqueue ≡ q) × (p.view ≡ popping (home gate workers k) [] 0)

-- the rights to push of the queues from n on
abbrev pub AllPush : GateId → ℕ → List QueueId → ℕ → List PassId → Type 0
AllPush gate workers queues n [] = Unit {0}
AllPush gate workers queues n (p ∷ ps) = (p.view ≡ pushing (home gate workers n) []) × (slice_get queues n ≡ Some p.subqueue) × AllPush gate workers queues (n + 1) ps

-- the rights to pop of the queues from n on
abbrev pub AllPop : GateId → ℕ → List QueueId → ℕ → List PassId → Type 0
AllPop gate workers queues n [] = Unit {0}
AllPop gate workers queues n (p ∷ ps) = (p.view ≡ popping (home gate workers n) [] 0) × (slice_get queues n ≡ Some p.subqueue) × AllPop gate workers queues (n + 1) ps

-- the workers of the queues from n on, which have taken nothing
abbrev pub AllFresh : GateId → ℕ → ℕ → List WorkerId → Type 0
AllFresh gate workers n [] = Unit {0}
AllFresh gate workers n (w ∷ ws) = (w.queue ≡ n) × (w.book ≡ fresh_book n workers) × (w.taken ≡ []) × (w.empty_pops ≡ 0) × (w.seat.view ≡ fresh_view gate.max_pending) × AllFresh gate workers (n + 1) ws
