use Rattle.std.proofs.Common.{◌≡◌, drop}
use Rattle.std.specs.List.{filter_map}
use Rattle.site_files.specs.Entries.{server_at, texts}
use Rattle.site_files.specs.Own.{own_among}
use Rattle.site_files.specs.Pages.{folder_texts, index_text}
use Rattle.site_files.proofs.own_pages.own_number.Given as goal

abbrev pub invariant-indices : goal.invariant-indices
invariant-indices l =
    own_among l.pages l.index (filter_map (index_text (server_at l.rules l.site) l.index l.name) (texts (drop l.index_file-index l.rules.index_files.items)))
    ≡ own_among l.pages l.index (folder_texts (server_at l.rules l.site) l.index l.name)
