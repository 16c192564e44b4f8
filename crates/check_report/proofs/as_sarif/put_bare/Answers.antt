use Rattle.check_report.proofs.Prelude.{Bor, List, ap, flat_map, ◌++◌, ◌∙◌}
use Rattle.json.specs.Tree.{json_tokens}
use Rattle.check_report.specs.Sarif.{bare_result}
use Rattle.check_report.specs.declared.value.Broken.{Broken}
use Rattle.check_report.proofs.Adding.{then_ok}
use Rattle.check_report.proofs.Results.{bare_written}
use Rattle.check_report.proofs.as_sarif.put_bare.Goals as goal

pub returns-clause-tokens : goal.returns-clause-tokens
returns-clause-tokens c =
    let written = λ (ts : List (Bor Broken)). flat_map (λ (t : Bor Broken). json_tokens (bare_result t.now)) ts in
    then_ok c.put_bare_results.result
    (λ is. is ∙ ap (λ ts. c.args.out.now.tokens ++ ts) (ap written c.as_slice.ensures.value ∙ bare_written c.in_ok-bare.bare.items _ c.in_ok-bare.ensures)) c.put_bare_results.ensures.tokens
