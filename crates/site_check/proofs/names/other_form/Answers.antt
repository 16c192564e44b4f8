use Rattle.site_check.proofs.Prelude.{◌∙◌, Global, IfOk-weaker, Option}
use Rattle.std.proofs.Common.{String}
use Rattle.site_check.proofs.Forms.{html_there, no_html}
use Rattle.site_check.proofs.names.other_form.Goals as goal

pub returns-in-Some : goal.returns-in-Some
returns-in-Some c =
    IfOk-weaker c.page_at.result _ _
    (λ (found : Option (String Global)) own. own ∙ html_there c.args.front.now c.args.files.now c.args.places.now c.args.path.now c.in-Some.name.now c.in-Some.ensures.cases) c.page_at.ensures

pub returns-in-None : goal.returns-in-None
returns-in-None c =
    IfOk-weaker c.folder_form.result _ _
    (λ (found : Option (String Global)) own. own ∙ no_html c.args.front.now c.args.files.now c.args.places.now c.args.path.now c.in-None.ensures.cases) c.folder_form.ensures
