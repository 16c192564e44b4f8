use Rattle.site_check.proofs.Prelude.{◌∙◌, IfOk-weaker, Option, ap, cond-false, sym}
use Rattle.check_report.specs.declared.value.BaseHint.{BaseHint}
use Rattle.site_check.specs.LinkBase.{hint_below}
use Rattle.site_check.proofs.link_base.hint_at_path.Goals as goal

pub returns : goal.returns
returns c =
    IfOk-weaker c.hint_below.result _ _
    (λ (hint : Option BaseHint) own. own ∙ ap (hint_below c.args.files.now c.args.results.now) c.as_str.ensures.value ∙ sym (cond-false c.args.rooted _ _ c.if-rooted.false))
    c.hint_below.ensures
