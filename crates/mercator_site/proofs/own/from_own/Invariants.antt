use Rattle.mercator_site.proofs.Prelude.{◌≡◌, drop, from_own}
use Rattle.mercator_site.proofs.own.from_own.Given as goal

abbrev pub invariant-loop-index : goal.invariant-loop-index
invariant-loop-index l = from_own l.top l.results ≡ from_own l.top (drop l.index l.results)
