-- The limits of a frontier. The limit of pending URLs is that of the gate.
use Rattle.std.specs.Prelude.{ℕ, ◌<◌, ◌≤◌}
use Rattle.crawl_keys.specs.Limits.{subqueues_limit}

-- the greatest number of hops of a URL
abbrev pub hops_limit : ℕ
hops_limit = 4294967295

-- the number can be that of workers, each of which has a subqueue
abbrev pub IsWorkers : ℕ → Type 0
IsWorkers n = (0 < n) × (n ≤ subqueues_limit)
