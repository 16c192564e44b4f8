use Rattle.result_order.proofs.Prelude.{◌≤◌, AllWithin, AreAlikeWithin}
use Rattle.result_order.proofs.beginning.alike_in_all.Given as goal

abbrev pub invariant-loop-one : goal.invariant-loop-one
invariant-loop-one l = record {
  least : l.from ≤ l.end;
  within : l.end ≤ l.most;
  alike : AllWithin (λ p. AreAlikeWithin l.from l.end l.text p.page.url) l.pages 0 l.one-index;
}
