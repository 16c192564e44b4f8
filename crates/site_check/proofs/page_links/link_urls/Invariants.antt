use Rattle.site_check.proofs.Prelude.{◌≡◌, flat_map, pointed, take}
use Rattle.site_check.specs.PageLinks.{page_urls}
use Rattle.site_check.proofs.page_links.link_urls.Given as goal

abbrev pub invariant-loop-one : goal.invariant-loop-one
invariant-loop-one l = pointed l.urls.items ≡ flat_map page_urls (take l.one-index l.results)
