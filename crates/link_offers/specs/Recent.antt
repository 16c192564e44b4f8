-- The URLs that a worker remembers.
use Rattle.std.specs.Prelude.{ℕ, List, Option, None, Some, IfSome, All}
use Rattle.crawl_queues.specs.declared.book.Logged.{Logged}
use Rattle.link_offers.specs.declared.recent.RecentUrls.{RecentUrls}
use Rattle.link_offers.specs.declared.recent.Slot.{Slot}
use Rattle.link_offers.specs.declared.recent.Slot.TheVariants.{Vacant, Taken}
use Rattle.link_offers.specs.Logs.{HasLine}

-- the URL in a slot, if there is one
abbrev pub url_in : Slot → Option (List ℕ)
url_in Vacant = None
url_in (Taken mark url) = Some url

-- the log has a line for each URL in a slot
abbrev pub AllKnown : ℕ → List Logged → List Slot → Type 0
AllKnown workers log slots = All (λ slot. IfSome (url_in slot) (HasLine workers log)) slots

-- the log has a line for each URL that is remembered
abbrev pub Knows : ℕ → List Logged → RecentUrls → Type 0
Knows workers log recent = AllKnown workers log recent.slots.items
