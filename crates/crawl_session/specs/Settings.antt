-- What a session is made with, and what it keeps.
use Rattle.std.specs.Prelude.{ℕ, ◌≤◌, List, Option, None, IfSome}
use Rattle.crawl_core.specs.Limits.{queue_limit}
use Rattle.crawl_session.specs.declared.part.Part.{Part}
use Rattle.crawl_session.specs.Frontiers.{KeptFrontier}

-- how many queues there are, in all parts of the crawl; the suffixes of its filter; and which part it is, if it is one
pub record Settings : Type 0 where
  pub workers : ℕ
  pub suffixes : List (List ℕ)
  pub part : Option Part

-- of a frontier that is no part
abbrev pub whole : ℕ → List (List ℕ) → Settings
whole workers suffixes = record { workers = workers; suffixes = suffixes; part = None }

-- settings, and what it keeps of its state
pub record SessionView : Type 0 where
  pub settings : Settings
  pub core : KeptFrontier

-- URLs can be assigned to its subqueues, and these to parts
pub record IsSession (settings : Settings) : Type 0 where
  pub some_worker : 1 ≤ settings.workers
  pub few_workers : settings.workers ≤ queue_limit
  pub some_queue : IfSome settings.part (λ part. 1 ≤ part.queues)
