-- The machine's own limit of queues. A frontier that is not part of a larger crawl has the smaller limit of workers.
use Rattle.std.specs.Prelude.{ℕ, ◌^◌}

-- the greatest number of queues of a machine
abbrev pub queue_limit : ℕ
queue_limit = 2 ^ 20
