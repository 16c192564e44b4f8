use Rattle.crawl_tie.proofs.Shown.{row}
use Rattle.crawl_tie.proofs.laws.rows_of_the_table.Goals as goal

pub returns : goal.returns
returns c = row
