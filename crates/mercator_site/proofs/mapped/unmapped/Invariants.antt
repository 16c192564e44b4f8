use Rattle.mercator_site.proofs.Prelude.{◌≡◌, take}
use Rattle.mercator_site.specs.Maps.{unmapped}
use Rattle.mercator_site.proofs.mapped.unmapped.Given as goal

abbrev pub invariant-loop-one : goal.invariant-loop-one
invariant-loop-one l = l.left.items ≡ unmapped l.folders (take l.one-index l.results)
