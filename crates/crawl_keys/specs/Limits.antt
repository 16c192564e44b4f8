-- The limits of keys.
use Rattle.std.specs.Prelude.{ℕ}
use Rattle.crawl_limits.specs.Limits.{worker_limit}

-- the greatest number of subqueues to which keys are assigned
abbrev pub subqueues_limit : ℕ
subqueues_limit = worker_limit
