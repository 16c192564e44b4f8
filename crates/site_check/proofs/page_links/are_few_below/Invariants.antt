use Rattle.site_check.proofs.Prelude.{◌≡◌, ◌≤◌, ◌^◌, begins, count_by, length, sum_by, take}
use Rattle.std.proofs.Common.{◌*◌}
use Rattle.site_check.specs.PageLinks.{page_links}
use Rattle.site_check.proofs.page_links.are_few_below.Given as goal

abbrev pub invariant-loop-one : goal.invariant-loop-one
invariant-loop-one l = record {
  counted : l.below ≡ sum_by (λ r. count_by (begins l.top) (page_links r)) (take l.one-index l.results);
  fits : l.below ≤ l.one-index * 2 ^ 64;
  all : l.of ≡ sum_by (λ r. length (page_links r)) (take l.one-index l.results);
  all_fit : l.of ≤ l.one-index * 2 ^ 64;
}
