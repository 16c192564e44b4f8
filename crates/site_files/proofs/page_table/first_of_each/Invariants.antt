use Rattle.std.proofs.Common.{◌≡◌}
use Rattle.std.specs.List.{dedup}
use Rattle.site_files.proofs.Table.{same_url}
use Rattle.site_files.proofs.page_table.first_of_each.Given as goal

abbrev pub invariant-entries : goal.invariant-entries
invariant-entries l = l.kept.items ≡ dedup same_url l.yielded
