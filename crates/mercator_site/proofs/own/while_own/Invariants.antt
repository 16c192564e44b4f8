use Rattle.mercator_site.proofs.Prelude.{◌≡◌, ◌++◌, take, drop, while_own}
use Rattle.mercator_site.proofs.own.while_own.Given as goal

abbrev pub invariant-loop-index : goal.invariant-loop-index
invariant-loop-index l = while_own l.top l.results ≡ take l.index l.results ++ while_own l.top (drop l.index l.results)
