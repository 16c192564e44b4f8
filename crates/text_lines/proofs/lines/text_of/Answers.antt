use Rattle.std.proofs.Common.{arith}
use Rattle.text_lines.proofs.CutLines.{text_of-utf8, text_of-other}
use Rattle.text_lines.proofs.lines.text_of.Goals as goal

pub returns-in-Ok : goal.returns-in-Ok
returns-in-Ok c = grind (arith, text_of-utf8)

pub returns-in-Err : goal.returns-in-Err
returns-in-Err c = grind (arith, text_of-other)
