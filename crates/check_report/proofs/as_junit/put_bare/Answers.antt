use Rattle.check_report.proofs.Prelude.{Bor, ap, arith, flat_map, length, nat_tests, sym, ◌++◌, ◌<◌, ◌∙◌}
use Rattle.check_report.specs.Junit.{bare_case, no_file, suite_end, suite_start}
use Rattle.check_report.specs.declared.value.Broken.{Broken}
use Rattle.check_report.proofs.Adding.{joined, last_joined, then_ok}
use Rattle.check_report.proofs.Suites.{some_bare_suite}
use Rattle.check_report.proofs.as_junit.put_bare.Goals as goal

pub returns : goal.returns
returns c =
    let old = c.args.out.now.items in
    let bare = c.args.bare.now in
    let start = suite_start no_file (length bare) in
    let cases = flat_map (λ (t : Bor Broken). bare_case t.now) bare in
    let some : 0 < length bare = grind (arith, nat_tests) in
    let two = joined old c.put_suite_start.new.out.items c.put_bare_cases.new.out.items start cases c.in_ok-put_suite_start.ensures c.in_ok-put_bare_cases.ensures in
    then_ok c.put.result (λ is. is ∙ ap (λ t. old ++ t) (sym (some_bare_suite bare some)))
    (last_joined c.put.result old c.put_bare_cases.new.out.items c.put.new.out.items (start ++ cases) suite_end two c.put.ensures)
