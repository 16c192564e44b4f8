-- What contracts see of shards, workers, senders and the seeder.
use Rattle.std.specs.Prelude.{ℕ, List}
use Rattle.crawl_gate.specs.Seat.{SeatId}
use Rattle.crawl_queues.specs.declared.entry.Entry.{Entry}
use Rattle.crawl_queues.specs.declared.entry.Message.{Message}
use Rattle.crawl_queues.specs.Books.{BookId}

-- a shard's queue, and its list of accepted URLs
pub record ShardId : Type 0 where
  pub queue : ℕ
  pub sent : List Entry

abbrev pub shard : ℕ → List Entry → ShardId
shard queue sent = record { queue = queue; sent = sent }

-- a worker's queue, its pass of the gate, the list that it took, the number of its pops that found nothing, and its books
pub record WorkerId : Type 0 where
  pub queue : ℕ
  pub seat : SeatId
  pub taken : List Entry
  pub empty_pops : ℕ
  pub book : BookId

abbrev pub worker : ℕ → SeatId → List Entry → ℕ → BookId → WorkerId
worker queue seat taken empty_pops book = record { queue = queue; seat = seat; taken = taken; empty_pops = empty_pops; book = book }

-- a worker with the message that it took
pub record BusyId : Type 0 where
  pub worker : WorkerId
  pub message : Message

abbrev pub busy : WorkerId → Message → BusyId
busy worker message = record { worker = worker; message = message }

-- a sender's books, and its pass of the gate
pub record SenderId : Type 0 where
  pub book : BookId
  pub seat : SeatId

abbrev pub sender_with : BookId → SeatId → SenderId
sender_with book seat = record { book = book; seat = seat }

-- likewise for the seeder, which also has the opening unit
pub record SeederId : Type 0 where
  pub book : BookId
  pub opening : SeatId
  pub seat : SeatId
