use Rattle.text_lines.proofs.Prelude.{ltb-false, rules, ◌≡◌, ◌==◌, position, Some, arith, IsCharBoundary-after_ascii, drop_all}
use Rattle.text_lines.proofs.CutLines.{lines_at, lines_only, nonempty, lf_at}
use Rattle.text_lines.proofs.lines.first_text.Goals as goal

pub range-requires-clause-end_boundary : goal.range-requires-clause-end_boundary
range-requires-clause-end_boundary c = grind (arith, lf_at)

pub range_from-requires : goal.range_from-requires
range_from-requires c = λ _.
    let found : position (λ b. b == 10) c.args.text.now ≡ Some c.in-Some.end = search rules in
    let at = lf_at c.args.text.now c.in-Some.end found in
    IsCharBoundary-after_ascii c.args.text.now c.in-Some.end c.utf8.text at.0 (omega (arith, at.1))

pub returns-in-Some-clause-cut : goal.returns-in-Some-clause-cut
returns-in-Some-clause-cut c = grind (arith, lines_at)

pub returns-in-None-2-clause-cut : goal.returns-in-None-2-clause-cut
returns-in-None-2-clause-cut c = grind (arith, lines_only, nonempty)

pub returns-in-None-2-clause-following : goal.returns-in-None-2-clause-following
returns-in-None-2-clause-following c = grind (arith, ltb-false, drop_all)
