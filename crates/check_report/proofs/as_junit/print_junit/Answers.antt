use Rattle.check_report.proofs.Prelude.{Bor, ap, codes, map, ◌++◌, ◌∙◌, ◌≡◌}
use Rattle.check_report.specs.Junit.{junit_start, suites}
use Rattle.check_report.specs.Order.{ordered_targets}
use Rattle.check_report.specs.declared.value.Broken.{Broken}
use Rattle.check_report.specs.declared.view.Order.TheVariants as order
use Rattle.check_report.proofs.as_junit.print_junit.Goals as goal

pub returns : goal.returns
returns c =
    let f = c.args.findings.now in
    let of = λ (t : Bor Broken). t.now in
    let targets : map of c.as_slice.result.now ≡ ordered_targets order.File f.broken.now = ap (map of) c.as_slice.ensures.value ∙ c.in_ok-targets.ensures in
    let first : c.put_start.new.out.items ≡ junit_start f.base_hint = c.in_ok-put_start.ensures ∙ ap (λ t. t ++ junit_start f.base_hint) c.new-out.ensures.items in
    let second = c.in_ok-put_suites.ensures ∙ (λ i. first i ++ suites c.args.contents.folder.now (targets i) (c.if_listed-unlisted.ensures i)) in
    c.in_ok-put.ensures ∙ ap (λ t. t ++ codes "</testsuites>\n") second
