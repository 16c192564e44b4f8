use Rattle.site_check.proofs.Prelude.{◌≡◌, ◌≤◌, count_by, pointed, take}
use Rattle.site_check.specs.LinkBase.{goes_below}
use Rattle.site_check.proofs.link_base.count_below.Given as goal

abbrev pub invariant-loop-url : goal.invariant-loop-url
invariant-loop-url l = record {
  counted : l.count ≡ count_by (goes_below l.folder) (pointed (take l.url-index l.urls));
  fits : l.count ≤ l.url-index;
}
