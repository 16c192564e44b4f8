-- What contracts see of a setup.
use Rattle.std.specs.Prelude.{ℕ, List}
use Rattle.crawl_gate.specs.Seat.{GateId}
use Rattle.crawl_queues.specs.QueueId.{QueueId}

-- the number of workers, the gate, and the subqueues in order
pub record SetupId : Type 0 where
  pub workers : ℕ
  pub gate : GateId
  pub queues : List QueueId
