use Rattle.check_report.proofs.Prelude.{◌++◌, ◌∙◌}
use Rattle.check_report.specs.Hints.{base_hint_text, hint_end}
use Rattle.check_report.proofs.hints.base_hint_text.Goals as goal

pub returns : goal.returns
unfolding base_hint_text
returns c = c.in_ok-push_hint_end.ensures ∙ (λ i. c.in_ok-text.ensures i ++ hint_end (c.as_str.ensures.value i))
