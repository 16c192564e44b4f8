use Rattle.site_check.proofs.Prelude.{◌∙◌, Global, IfOk-weaker, Option}
use Rattle.std.proofs.Common.{String}
use Rattle.site_check.proofs.Forms.{folder_there, no_folder}
use Rattle.site_check.proofs.names.folder_form.Goals as goal

pub returns-in-Some : goal.returns-in-Some
returns-in-Some c =
    IfOk-weaker c.page_at.result _ _
    (λ (found : Option (String Global)) own. own ∙ folder_there c.args.front.now c.args.files.now c.args.places.now c.args.path.now c.in-Some.name.now c.in-Some.ensures.cases) c.page_at.ensures

pub returns-in-None : goal.returns-in-None
returns-in-None c = no_folder c.args.front.now c.args.files.now c.args.places.now c.args.path.now c.in-None.ensures.cases
