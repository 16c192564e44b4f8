use Rattle.saved_site.proofs.Prelude.{◌≡◌, take}
use Rattle.std.specs.List.{filter}
use Rattle.site_files.specs.Own.{may_be_sitemap}
use Rattle.saved_site.proofs.sitemaps.sitemaps_among.Given as goal

abbrev pub invariant-urls : goal.invariant-urls
invariant-urls l = l.among.items ≡ filter (may_be_sitemap l.files) (take l.url-index l.urls)
