-- Which events make the state larger.
use Rattle.std.specs.Prelude.{Bool, true, false}
use Rattle.crawl_core.specs.declared.event.Event.{Event}
use Rattle.crawl_core.specs.declared.event.Event.TheVariants.{Look, Enter, Admit, Back, EndSeeds, Take, Done, Close}

-- `Look` may add a word that a sender remembers, `Enter` a sender that holds a unit, and `Admit` a URL. All other events add nothing,
-- and need no memory.
abbrev pub needs_memory : Event → Bool
needs_memory (Look _) = true
needs_memory (Enter _) = true
needs_memory (Admit _ _ _) = true
needs_memory (Back _) = false
needs_memory EndSeeds = false
needs_memory (Take _) = false
needs_memory (Done _) = false
needs_memory Close = false
