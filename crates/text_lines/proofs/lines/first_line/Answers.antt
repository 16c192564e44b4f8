use Rattle.text_lines.proofs.Prelude.{sym, ◌+◌, length, arith, take_rest}
use Rattle.text_lines.proofs.CutLines.{lines_at, lines_only, nonempty, whole_utf8, no_bytes}
use Rattle.text_lines.proofs.lines.first_line.Goals as goal

pub returns-in-Some-clause-cut : goal.returns-in-Some-clause-cut
returns-in-Some-clause-cut c = grind (arith, take_rest, lines_at)

pub returns-in-Some-clause-utf8 : goal.returns-in-Some-clause-utf8
returns-in-Some-clause-utf8 c = λ line more.
    whole_utf8 c.args.bytes.now c.in-Some.end (sym c.in-Some.ensures) (rw c.without_return.ensures at line) (rw (take_rest c.args.bytes.now (c.in-Some.end + 1)) at more)

pub returns-in-None-clause-utf8 : goal.returns-in-None-clause-utf8
returns-in-None-clause-utf8 c = no_bytes c.args.bytes.now (sym c.if-is_empty.ensures)

pub returns-in-None-2-clause-cut : goal.returns-in-None-2-clause-cut
returns-in-None-2-clause-cut c = lines_only c.args.bytes.now (sym c.in-None-2.ensures) (nonempty (length c.args.bytes.now) (sym c.if-is_empty.ensures))
