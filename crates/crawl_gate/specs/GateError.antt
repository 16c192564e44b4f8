-- The maximums that a gate can have, and why a gate is not made.
use Rattle.std.specs.Prelude.{ℕ, ◌<◌, ◌≤◌, List, codes}
use Rattle.crawl_limits.specs.Limits.{pending_limit}
use Rattle.crawl_gate.specs.declared.error.GateError.{GateError}
use Rattle.crawl_gate.specs.declared.error.GateError.TheVariants.{BadLimit, NoMemory}

-- the maximum is from 1 to 2^40 units
abbrev pub IsMaximum : ℕ → Type 0
IsMaximum max = (0 < max) × (max ≤ pending_limit)

-- a bad maximum is always reported, and out of memory only for a good one
abbrev pub Refuses : ℕ → GateError → Type 0
Refuses max BadLimit = ¬ IsMaximum max
Refuses max NoMemory = IsMaximum max

-- the text that `{}` prints
abbrev pub error_text : GateError → List ℕ
error_text BadLimit = codes "maximum not from 1 to 2^40"
error_text NoMemory = codes "out of memory"
