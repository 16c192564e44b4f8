use Rattle.check_report.proofs.Prelude.{arith, length, nat_tests, ◌++◌, ◌≡◌}
use Rattle.std.specs.Char.{encode_utf8}
use Rattle.std.specs.Str.Iter.{chars_rest}
use Rattle.check_report.proofs.Decoding.{readable_one}
use Rattle.check_report.proofs.names.readable_only.Goals as goal

pub returns-in-Some : goal.returns-in-Some
returns-in-Some c =
    let before : chars_rest c.chars-rest.result ≡ encode_utf8 c.in-Some.c ++ chars_rest c.next.new.self = c.in-Some.ensures.steps.0 in
    let split : c.args.text.now ≡ encode_utf8 c.in-Some.c ++ c.as_str.result.now = cc (before, c.chars-rest.ensures.rest, c.as_str.ensures) in
    let none : length c.as_str.result.now ≡ 0 = grind (arith, nat_tests) in
    readable_one c.args.text.now c.as_str.result.now c.in-Some.c c.if_readable.result c.utf8.text split none c.if_readable.ensures
