use Rattle.std.proofs.Common.{◌+◌, ◌-◌, length, drop, arith}
use Rattle.std.proofs.lemmas.List.{take_all, length-drop}
use Rattle.crawl_session.proofs.SumLines.{ended_lines-first, ended_lines-none}
use Rattle.crawl_session.proofs.sums.ended_line.Goals as goal

pub returns-in-Some-clause-cut : goal.returns-in-Some-clause-cut
returns-in-Some-clause-cut c =
    let bytes = c.args.bytes.now in
    let n = c.in-Some.end + 1 in
    let found = c.in-Some.ensures in
    rw (take_all (length bytes - n) (drop n bytes) (omega (arith, length-drop n bytes))) (ended_lines-first bytes c.in-Some.end found.0.high found.1 found.0.before)

pub returns-in-None-clause-cut : goal.returns-in-None-clause-cut
returns-in-None-clause-cut c = ended_lines-none c.args.bytes.now c.in-None.ensures
