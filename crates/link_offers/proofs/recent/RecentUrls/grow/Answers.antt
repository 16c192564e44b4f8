use Rattle.link_offers.proofs.Prelude.{IfSome, Some, All-pop, Slot, HasLine, url_in}
use Rattle.link_offers.proofs.recent.RecentUrls.grow.Goals as goal

pub loop-slot-preserved : goal.loop-slot-preserved
loop-slot-preserved c = λ workers log was.
    let before = c.loop-slot.invariant workers log was in
    let popped = All-pop (λ (slot : Slot). IfSome (url_in slot) (HasLine workers log)) c.loop-slot.old.items c.pop.new.self.items (Some c.in-Some.slot) c.in-Some.ensures.items before.0 in
    (popped.0, c.put.ensures workers log before.1 popped.1)
