use Rattle.saved_site.proofs.Prelude.{[], AreInOrder}
use Rattle.saved_site.proofs.web_text.in_order.Given as goal

abbrev pub invariant-pages : goal.invariant-pages
invariant-pages l = AreInOrder l.top [] l.all.items
