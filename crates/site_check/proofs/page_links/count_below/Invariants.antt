use Rattle.site_check.proofs.Prelude.{◌≡◌, ◌≤◌, begins, count_by, take}
use Rattle.site_check.proofs.page_links.count_below.Given as goal

abbrev pub invariant-loop-link : goal.invariant-loop-link
invariant-loop-link l = record {
  counted : l.count ≡ count_by (begins l.top) (take l.link-index l.links);
  fits : l.count ≤ l.link-index;
}
