use Rattle.site_check.proofs.Prelude.{◌≡◌, ◌++◌, map, take}
use Rattle.site_check.specs.Located.{listed}
use Rattle.site_check.proofs.check.push_listed.Given as goal

abbrev pub invariant-loop-lead : goal.invariant-loop-lead
invariant-loop-lead l = l.all.items ≡ l.initial.all.items ++ map (listed l.list) (take l.lead-index l.leads)
