use Rattle.std.proofs.Common.{sym}
use Rattle.text_lines.proofs.CutLines.{text_of-utf8}
use Rattle.text_lines.proofs.lines.short_text.Goals as goal

pub returns : goal.returns
returns c = sym (text_of-utf8 c.args.number c.args.line.now c.if-line-gt-LINE_LIMIT.false c.utf8.line)
