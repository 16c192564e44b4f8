use Rattle.std.proofs.Common.{◌++◌, drop, map}
use Rattle.site_files.specs.Entries.{expected, listed, server_at, texts}
use Rattle.site_files.specs.Pages.{index_page, index_pages}
use Rattle.site_files.proofs.Listing.{Leaves, numbered_pages}
use Rattle.site_files.proofs.site.Site.push_index_files.Given as goal

abbrev pub invariant-names : goal.invariant-names
invariant-names l =
    Leaves
    (map listed l.initial.entries.items ++ map expected (index_pages (server_at l.rules l.self) (texts l.names) l.index_file))
    l.entries.items
    (numbered_pages (index_page (server_at l.rules l.self) l.index_file) l.index (texts (drop l.index l.names)))
