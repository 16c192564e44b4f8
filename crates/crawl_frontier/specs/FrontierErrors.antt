-- Why a setup is not made.
use Rattle.std.specs.Prelude.{ℕ}
use Rattle.crawl_gate.specs.GateError.{IsMaximum}
use Rattle.crawl_frontier.specs.Limits.{IsWorkers}
use Rattle.crawl_frontier.specs.declared.error.FrontierError.{FrontierError}
use Rattle.crawl_frontier.specs.declared.error.FrontierError.TheVariants.{BadWorkers, BadLimit, NoMemory}

-- the error is that of the first check that fails, and out of memory only if both pass
abbrev pub NoSetup : ℕ → ℕ → FrontierError → Type 0
NoSetup workers max BadWorkers = ¬ IsWorkers workers
NoSetup workers max BadLimit = IsWorkers workers × ¬ IsMaximum max
NoSetup workers max NoMemory = IsWorkers workers × IsMaximum max
