use Rattle.std.proofs.Common.{◌++◌, drop, map}
use Rattle.std.specs.List.{flat_map}
use Rattle.site_files.specs.Entries.{expected, listed, server_at, texts}
use Rattle.site_files.specs.Pages.{index_pages}
use Rattle.site_files.proofs.Listing.{Leaves}
use Rattle.site_files.proofs.site.Site.push_indices.Given as goal

abbrev pub invariant-indices : goal.invariant-indices
invariant-indices l =
    Leaves
    (map listed l.initial.entries.items ++ map expected (flat_map (index_pages (server_at l.rules l.self) (texts l.names)) (texts l.rules.index_files.items)))
    l.entries.items
    (flat_map (index_pages (server_at l.rules l.self) (texts l.names)) (texts (drop l.index_file-index l.rules.index_files.items)))
