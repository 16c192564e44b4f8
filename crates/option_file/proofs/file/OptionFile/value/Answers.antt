use Rattle.toml.proofs.Views.{table_get}
use Rattle.option_file.proofs.file.OptionFile.value.Goals as goal

pub returns : goal.returns
returns c = table_get c.get.result c.args.name.now c.args.self.now.table.entries c.get.ensures.value
