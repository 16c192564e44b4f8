use Rattle.std.specs.Str.Lines.{lines}
use Rattle.crawl_replay.proofs.ScriptFields.{script_means}
use Rattle.crawl_replay.proofs.laws.lines_mean_what_the_format_says.Goals as goal

pub returns-clause-script : goal.returns-clause-script
returns-clause-script c bytes script = script_means (lines bytes) script
