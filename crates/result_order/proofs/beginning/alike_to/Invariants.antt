use Rattle.result_order.specs.Sixteens.{AreAlikeWithin}
use Rattle.result_order.proofs.beginning.alike_to.Given as goal

abbrev pub invariant-loop-index : goal.invariant-loop-index
invariant-loop-index l = AreAlikeWithin l.from l.index l.first l.second
