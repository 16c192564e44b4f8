use Rattle.site_check.proofs.RowsLeft.{reported_all}
use Rattle.site_check.proofs.laws.all_rows_are_reported_without_file_entries.Goals as goal

pub returns : goal.returns
returns c = reported_all
