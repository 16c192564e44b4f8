use Rattle.saved_site.proofs.Prelude.{◌≡◌, take}
use Rattle.saved_site.specs.Sitemaps.{links_at}
use Rattle.saved_site.proofs.sitemaps.links_at.Given as goal

abbrev pub invariant-urls : goal.invariant-urls
invariant-urls l = l.links.items ≡ links_at l.pages (take l.url-index l.urls)
