use Rattle.std.proofs.Common.{◌≡◌, map, string_bytes, take}
use Rattle.site_files.specs.Skipped.{link_below, link_held}
use Rattle.site_files.proofs.site.Site.skipped_urls.Given as goal

abbrev pub invariant-links : goal.invariant-links
invariant-links l = map link_held l.urls.items ≡ map (link_below (string_bytes l.self.top)) (take l.link-index l.links)
