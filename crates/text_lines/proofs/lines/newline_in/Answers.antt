use Rattle.text_lines.proofs.CutLines.{first_byte-position}
use Rattle.text_lines.proofs.lines.newline_in.Goals as goal

pub returns : goal.returns
returns c = first_byte-position _ c.args.bytes.now c.memchr.result c.memchr.ensures
