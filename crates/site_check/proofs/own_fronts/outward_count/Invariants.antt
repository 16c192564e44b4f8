use Rattle.site_check.proofs.Prelude.{◌≡◌, ◌≤◌, count_by, take}
use Rattle.site_check.specs.OwnFronts.{links_outward}
use Rattle.site_check.proofs.own_fronts.outward_count.Given as goal

abbrev pub invariant-loop-one : goal.invariant-loop-one
invariant-loop-one l = record {
  counted : l.count ≡ count_by (links_outward l.top) (take l.one-index l.results);
  fits : l.count ≤ l.one-index;
}
