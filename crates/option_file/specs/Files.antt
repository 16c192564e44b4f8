-- What a file of options sets.
use Rattle.toml.specs.Data.{Members}
use Rattle.toml.specs.View.{table_view}
use Rattle.option_file.specs.declared.file.OptionFile.{OptionFile}

-- the members of the file's document
abbrev pub members_of : OptionFile → Members
members_of file = table_view file.table
