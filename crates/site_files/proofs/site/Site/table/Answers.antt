use Rattle.site_files.specs.Entries.{server_at, texts}
use Rattle.site_files.proofs.Table.{table_of}
use Rattle.site_files.proofs.site.Site.table.Goals as goal

pub returns-clause-table : goal.returns-clause-table
returns-clause-table c =
    table_of (server_at c.args.rules.now c.args.self.now) (texts c.args.names.now) c.in_ok-pages.field-0.items c.in_ok-pages-2.pages c.in_ok-pages.ensures.pages c.in_ok-pages-2.ensures
