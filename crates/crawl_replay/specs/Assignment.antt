-- The subqueue that an admission names.
use Rattle.std.specs.Prelude.{◌≡◌, ℕ, List, Ok, All}
use Rattle.crawl_core.specs.declared.event.Event.{Event}
use Rattle.crawl_core.specs.declared.event.Event.TheVariants.{Admit}
use Rattle.crawl_keys.specs.Assignment.{subqueue_of}
use Rattle.crawl_keys.specs.CanonicalText.{canonical}

-- an admission names the subqueue, of this number, to which the host key of its URL is assigned
abbrev pub IsPlaced : ℕ → Event → Type 0
IsPlaced workers (Admit sender url queue) = queue ≡ subqueue_of url workers
IsPlaced workers _ = Unit {0}

-- each admission does so
abbrev pub IsAssigned : ℕ → List Event → Type 0
IsAssigned workers events = All (IsPlaced workers) events

-- an admission does so, and its text is a canonical URL
abbrev pub IsAddressed : ℕ → Event → Type 0
IsAddressed workers (Admit sender url queue) = (queue ≡ subqueue_of url workers) × (canonical url ≡ Ok url)
IsAddressed workers _ = Unit {0}

-- each admission does both
abbrev pub AreAddressed : ℕ → List Event → Type 0
AreAddressed workers events = All (IsAddressed workers) events
