-- What identifies a subqueue.
use Rattle.std.specs.Prelude.{ℕ}
use Rattle.atomic_table.specs.Seated.{TableId}

-- the numbers of the two parts of its queue, and the identity of its list
pub record QueueId : Type 0 where
  pub web : ℕ × ℕ
  pub list : TableId

abbrev pub queue_id : ℕ × ℕ → TableId → QueueId
queue_id web list = record { web = web; list = list }
