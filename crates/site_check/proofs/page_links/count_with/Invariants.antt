use Rattle.site_check.proofs.Prelude.{◌≡◌, ◌≤◌, begins, count_by, pointed, take}
use Rattle.site_check.proofs.page_links.count_with.Given as goal

abbrev pub invariant-loop-url : goal.invariant-loop-url
invariant-loop-url l = record {
  counted : l.count ≡ count_by (begins l.front) (pointed (take l.url-index l.urls));
  fits : l.count ≤ l.url-index;
}
