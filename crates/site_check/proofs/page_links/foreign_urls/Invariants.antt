use Rattle.site_check.proofs.Prelude.{◌≡◌, flat_map, pointed, take}
use Rattle.site_check.specs.PageLinks.{foreign_in}
use Rattle.site_check.proofs.page_links.foreign_urls.Given as goal

abbrev pub invariant-loop-one : goal.invariant-loop-one
invariant-loop-one l = pointed l.urls.items ≡ flat_map (foreign_in l.top) (take l.one-index l.results)
