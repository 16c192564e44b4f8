use Rattle.site_check.proofs.Prelude.{◌≡◌, outside_of, pointed, take}
use Rattle.site_check.proofs.leaving.outside_results.Given as goal

abbrev pub invariant-loop-one : goal.invariant-loop-one
invariant-loop-one l = pointed l.all.items ≡ outside_of l.files (take l.one-index l.results)
