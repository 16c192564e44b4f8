use Rattle.std.proofs.Common.{◌≡◌, ◌++◌, drop, map, string_bytes}
use Rattle.site_files.specs.Links.{names_in, urls_in}
use Rattle.site_files.specs.Pages.{link_urls}
use Rattle.site_files.proofs.site.Site.link_urls.Given as goal

abbrev pub invariant-links : goal.invariant-links
invariant-links l =
    urls_in l.urls.items ++ map (link_urls (string_bytes l.self.top)) (names_in (drop l.link-index l.links))
    ≡ map (link_urls (string_bytes l.self.top)) (names_in l.links)
