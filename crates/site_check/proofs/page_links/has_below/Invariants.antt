use Rattle.site_check.proofs.Prelude.{◌≡◌, begins, false, list_any, take}
use Rattle.site_check.proofs.page_links.has_below.Given as goal

abbrev pub invariant-loop-link : goal.invariant-loop-link
invariant-loop-link l = list_any (begins l.top) (take l.link-index l.links) ≡ false
