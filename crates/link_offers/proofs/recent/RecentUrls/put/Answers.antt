use Rattle.link_offers.proofs.Prelude.{common_steps, IfSome, arith, ◌≡◌, ◌<◌, ℕ, List, length, slice_set, slice_index_or, Slot, HasLine, url_in, AllKnown, Logged}
use Rattle.link_offers.proofs.recent.RecentUrls.put.Goals as goal

-- a slot whose URL has a line is written to one index, and the slot that was there to another
moved_on : (workers : ℕ) (log : List Logged) (slots : List Slot) (i j : ℕ) (first second d : Slot) → AllKnown workers log slots → IfSome (url_in first) (HasLine workers log)
    → second ≡ slice_index_or slots i d → i < length slots → AllKnown workers log (slice_set (slice_set slots i first) j second)
moved_on workers log slots i j first second d known now was less = grind (arith, common_steps)

pub returns-then-is_some : goal.returns-then-is_some
returns-then-is_some c = grind (arith, moved_on)

pub returns : goal.returns
returns c = grind (arith, moved_on)
