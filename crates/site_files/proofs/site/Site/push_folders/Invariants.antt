use Rattle.std.proofs.Common.{◌++◌, drop, map, string_bytes}
use Rattle.std.specs.List.{filter_map}
use Rattle.site_files.specs.Entries.{expected, listed, texts}
use Rattle.site_files.specs.Pages.{moved_page}
use Rattle.site_files.proofs.Listing.{Leaves}
use Rattle.site_files.proofs.site.Site.push_folders.Given as goal

abbrev pub invariant-names : goal.invariant-names
invariant-names l =
    Leaves
    (map listed l.initial.entries.items ++ map expected (filter_map (moved_page (string_bytes l.self.top)) (texts l.names)))
    l.entries.items
    (filter_map (moved_page (string_bytes l.self.top)) (texts (drop l.name-index l.names)))
