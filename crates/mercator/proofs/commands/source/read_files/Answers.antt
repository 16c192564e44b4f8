use Rattle.std.proofs.Common.{arith}
use Rattle.mercator.proofs.PlanTexts.{are_read}
use Rattle.mercator.proofs.commands.source.read_files.Goals as goal

pub returns-clause-files : goal.returns-clause-files
returns-clause-files g c = grind (arith, are_read)
