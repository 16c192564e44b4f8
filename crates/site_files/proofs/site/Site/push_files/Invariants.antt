use Rattle.std.proofs.Common.{◌++◌, drop, map}
use Rattle.site_files.specs.Entries.{expected, listed, server_at, texts}
use Rattle.site_files.specs.Pages.{named_page, named_pages}
use Rattle.site_files.proofs.Listing.{Leaves, numbered_pages}
use Rattle.site_files.proofs.site.Site.push_files.Given as goal

abbrev pub invariant-names : goal.invariant-names
invariant-names l =
    Leaves
    (map listed l.initial.entries.items ++ map expected (named_pages (server_at l.rules l.self) (texts l.names)))
    l.entries.items
    (numbered_pages (named_page (server_at l.rules l.self)) l.index (texts (drop l.index l.names)))
