use Rattle.check_report.proofs.Prelude.{ap, flat_map, get_or, length, string_bytes, sym, ◌++◌, ◌≡◌, ◌∙◌}
use Rattle.check_report.specs.Junit.{link_case, suite_end, suite_start}
use Rattle.check_report.specs.Order.{link_of}
use Rattle.check_report.specs.declared.ordered.Link.{Link}
use Rattle.check_report.proofs.Adding.{joined, last_joined, then_ok}
use Rattle.check_report.proofs.Suites.{file_suite_of}
use Rattle.check_report.proofs.as_junit.put_file_suite.Goals as goal

pub returns : goal.returns
returns c =
    let old = c.args.out.now.items in
    let links = c.args.links.now in
    let first = get_or links 0 c.index-links-0.result in
    let begun = c.put_suite_start.new.out.items in
    let start = suite_start (string_bytes first.place.now.file) (length links) in
    let cases = flat_map (λ (l : Link). link_case c.args.folder.now (link_of l)) links in
    let one : begun ≡ old ++ start = c.in_ok-put_suite_start.ensures ∙ ap (λ name. old ++ suite_start name (length links)) c.as_str.ensures.value in
    let two = joined old begun c.put_cases.new.out.items start cases one c.in_ok-put_cases.ensures in
    then_ok c.put.result (λ is. is ∙ ap (λ t. old ++ t) (sym (file_suite_of c.args.folder.now links c.index-links-0.result c.requires)))
    (last_joined c.put.result old c.put_cases.new.out.items c.put.new.out.items (start ++ cases) suite_end two c.put.ensures)
