-- The settings of a session, and which are within the limits.
use Rattle.std.specs.Prelude.{ℕ, ◌<◌, ◌≤◌, ◌*◌, List, Option, Some, None}
use Rattle.crawl_core.specs.Limits.{queue_limit}
use Rattle.crawl_limits.specs.Limits.{AreLimits}
use Rattle.crawl_session.specs.Settings.{Settings}
use Rattle.crawl_session.specs.declared.part.Part.{Part}
use Rattle.session_log.specs.declared.plan.SessionPlan.{SessionPlan}

-- the number of queues of all parts, if each part has this many
abbrev pub all_queues : ℕ → Option (ℕ × ℕ) → ℕ
all_queues workers None = workers
all_queues workers (Some p) = workers * p.1

abbrev pub queues_of : SessionPlan → ℕ
queues_of plan = all_queues plan.workers plan.part

-- the number of the part is below the number of parts
abbrev pub IsPartOf : Option (ℕ × ℕ) → Type 0
IsPartOf None = Unit {0}
IsPartOf (Some p) = p.0 < p.1

-- the numbers of a session are within the limits of a frontier, and the number of all queues within that of its parts together
abbrev pub IsSessionPlan : SessionPlan → Type 0
IsSessionPlan plan = AreLimits plan.workers plan.max × ((queues_of plan ≤ queue_limit) × IsPartOf plan.part)

-- the part with this many queues whose log has this identity
abbrev pub part_of : ℕ → List ℕ → Option (ℕ × ℕ) → Option Part
part_of queues identity None = None
part_of queues identity (Some p) = Some (record { number = p.0; queues = queues; identity = identity })

-- the settings of the session of a plan, with the suffixes of its filter and the identity of its log
abbrev pub settings_of : SessionPlan → List (List ℕ) → List ℕ → Settings
settings_of plan suffixes identity = record { workers = queues_of plan; suffixes = suffixes; part = part_of plan.workers identity plan.part }
