use Rattle.check_report.proofs.Prelude.{drop, length, map, ◌++◌, ◌-◌, ◌≡◌, ◌≤◌}
use Rattle.check_report.specs.Junit.{suites_from}
use Rattle.check_report.specs.Order.{link_of}
use Rattle.check_report.proofs.as_junit.put_links.Given as goal

abbrev pub decreases-suites : goal.decreases-suites
decreases-suites l = length l.links - l.next

-- what was put, and the suites of the other links, is the whole
abbrev pub invariant-suites : goal.invariant-suites
invariant-suites l = record {
  within : l.next ≤ length l.links;
  so_far : l.out.items ++ suites_from l.folder 0 (map link_of (drop l.next l.links)) ≡ l.fn.out.items ++ suites_from l.folder 0 (map link_of l.links);
}
