use Rattle.site_check.proofs.Prelude.{◌≡◌, length}
use Rattle.site_check.specs.Complete.{rises_from}
use Rattle.site_check.proofs.indexed.rises.Given as goal

abbrev pub invariant-indices : goal.invariant-indices
invariant-indices l = rises_from l.least l.left ≡ rises_from 0 l.fn.indices

abbrev pub decreases-indices : goal.decreases-indices
decreases-indices l = length l.left
