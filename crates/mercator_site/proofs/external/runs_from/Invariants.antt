use Rattle.mercator_site.proofs.Prelude.{◌≡◌, ◌≤◌, ◌+◌, ◌++◌, drop, map, pointed, row_of, runs_from}
use Rattle.mercator_site.proofs.external.runs_from.Given as goal

abbrev pub invariant-loop-next : goal.invariant-loop-next
invariant-loop-next l = record {
  found : map row_of l.all.items ++ runs_from l.url l.links (pointed (drop l.next-index l.more)) ≡ runs_from l.first 1 (pointed l.more);
  few : l.links ≤ l.next-index + 1;
}
