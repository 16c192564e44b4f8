use Rattle.mercator_site.proofs.Prelude.{take}
use Rattle.std.specs.Prelude.{All}
use Rattle.mercator_site.specs.Misses.{IsRightlyMissed}
use Rattle.mercator_site.proofs.false_miss.has_false_miss.Given as goal

abbrev pub invariant-loop-one : goal.invariant-loop-one
invariant-loop-one l = All (IsRightlyMissed l.files) (take l.one-index l.results)
