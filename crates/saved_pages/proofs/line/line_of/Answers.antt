use native.Mathlib.Omega.{arith}
use Rattle.std.proofs.Common.{sym, ◌∙◌}
use Rattle.saved_pages.proofs.WebLines.{line_of-utf8}
use Rattle.saved_pages.specs.declared.line.Line.TheVariants as says
use Rattle.saved_pages.proofs.line.line_of.Goals as goal

pub returns-in-Some-clause-line : goal.returns-in-Some-clause-line
returns-in-Some-clause-line c = grind (arith, line_of-utf8)

pub returns-in-None-clause-line : goal.returns-in-None-clause-line
returns-in-None-clause-line c = c.by_first_word.ensures ∙ sym (line_of-utf8 c.args.text.now c.utf8.text)
