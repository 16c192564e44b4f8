-- The limits that several crates share. Each number is only here.
use Rattle.std.specs.Prelude.{ℕ, ◌≤◌, ◌^◌}

-- the greatest number of workers, and so of queues: each worker has one
abbrev pub worker_limit : ℕ
worker_limit = 512

-- the greatest number to which a frontier can limit its pending units
abbrev pub pending_limit : ℕ
pending_limit = 2 ^ 40

-- the greatest length of a line, in bytes
abbrev pub line_limit : ℕ
line_limit = 4096

-- a frontier can be made with this number of workers and this limit of units
pub record AreLimits (workers max : ℕ) : Type 0 where
  pub some_worker : 1 ≤ workers
  pub few_workers : workers ≤ worker_limit
  pub some_pending : 1 ≤ max
  pub few_pending : max ≤ pending_limit
