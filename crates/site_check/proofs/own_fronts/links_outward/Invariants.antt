use Rattle.site_check.proofs.Prelude.{◌≡◌, false, list_any, take}
use Rattle.site_check.specs.OwnFronts.{is_outward}
use Rattle.site_check.specs.PageLinks.{page_links}
use Rattle.site_check.proofs.own_fronts.links_outward.Given as goal

abbrev pub invariant-loop-link : goal.invariant-loop-link
invariant-loop-link l = list_any (is_outward l.top) (take l.link-index (page_links l.one)) ≡ false
