use Rattle.std.proofs.Common.{◌++◌, drop, map}
use Rattle.site_files.specs.Entries.{expected, listed, server_at, texts}
use Rattle.site_files.specs.Hints.{home_page, home_pages}
use Rattle.site_files.proofs.Listing.{Leaves, numbered_pages}
use Rattle.site_files.proofs.site.Site.push_homes.Given as goal

abbrev pub invariant-names : goal.invariant-names
invariant-names l =
    Leaves
    (map listed l.initial.entries.items ++ map expected (home_pages (server_at l.rules l.self) (texts l.names)))
    l.entries.items
    (numbered_pages (home_page (server_at l.rules l.self)) l.index (texts (drop l.index l.names)))
