use Rattle.site_check.proofs.Prelude.{IfOk-weaker, Option, hint_at, option_map}
use Rattle.check_report.specs.declared.value.BaseHint.{BaseHint}
use Rattle.site_check.proofs.LinkFolders.{path_counts}
use Rattle.site_check.proofs.link_base.hint_of_paths.Goals as goal

pub returns : goal.returns
returns c =
    IfOk-weaker c.first_hint.result _ _
    (λ (hint : Option BaseHint) own. path_counts c.args.files.now c.args.paths.now (option_map hint_at hint) own)
    c.first_hint.ensures
