use Rattle.check_report.proofs.Prelude.{ap, ◌++◌, ◌∙◌}
use Rattle.json.specs.Tree.{members_tokens}
use Rattle.shown_text.specs.Shown.{shown}
use Rattle.check_report.specs.Messages.{link_message, rule_id}
use Rattle.check_report.specs.Sarif.{locations, start_tokens}
use Rattle.check_report.proofs.Adding.{last_joined}
use Rattle.check_report.proofs.as_sarif.put_link.Goals as goal

pub returns-clause-tokens : goal.returns-clause-tokens
returns-clause-tokens c =
    let old = c.args.out.now.tokens in
    let target = c.args.target.now in
    let place = c.args.place.now in
    let start = start_tokens (rule_id target.kind) (shown (link_message target place)) in
    let begun = c.put_result_start.new.out.tokens in
    let text = c.as_str-2.ensures.value ∙ c.in_ok-text.ensures ∙ ap shown (c.as_str.ensures.value ∙ c.in_ok-message.ensures) in
    last_joined c.put_result_end.result old begun c.put_result_end.new.out.tokens start (members_tokens (locations c.args.contents place))
    (c.in_ok-put_result_start.ensures.tokens ∙ ap (λ r. old ++ start_tokens r c.as_str-2.result.now) c.rule_id.ensures ∙ ap (λ t. old ++ start_tokens (rule_id target.kind) t) text) c.put_result_end.ensures.tokens
