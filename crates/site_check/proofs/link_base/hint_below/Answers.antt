use Rattle.site_check.proofs.Prelude.{◌∙◌, IfOk-weaker, Option, ap, hint_at, option_map, pointed}
use Rattle.check_report.specs.declared.value.BaseHint.{BaseHint}
use Rattle.site_check.proofs.LinkFolders.{counts_below}
use Rattle.site_check.proofs.link_base.hint_below.Goals as goal

pub returns : goal.returns
returns c =
    IfOk-weaker c.hint_in.result _ _
    (λ (hint : Option BaseHint) own.
    counts_below c.args.files.now c.as_slice-urls.result.now c.args.results.now c.args.folder.now c.as_str-url.result.now (option_map hint_at hint)
    (ap pointed c.as_slice-urls.ensures.value ∙ c.in_ok-all.ensures)
    (c.as_str-url.ensures.value ∙ c.in_ok-text.ensures)
    own)
    c.hint_in.ensures
