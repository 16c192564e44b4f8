use Rattle.site_check.proofs.Prelude.{◌≡◌, ◌++◌, map, pointed, take}
use Rattle.site_files.specs.Server.{before_query}
use Rattle.site_check.proofs.page_links.push_links.Given as goal

abbrev pub invariant-loop-link : goal.invariant-loop-link
invariant-loop-link l = pointed l.urls.items ≡ pointed l.initial.urls.items ++ map before_query (take l.link-index l.links)
