use Rattle.site_check.proofs.Prelude.{◌∙◌, Global, IfOk-weaker, Option, ap, only_name, pages_of}
use Rattle.std.proofs.Common.{String}
use Rattle.site_check.proofs.Namesakes.{one_known, several_known}
use Rattle.site_check.proofs.names.name_of_known.Goals as goal

pub returns-in-One : goal.returns-in-One
returns-in-One c = λ pages known.
    let one = one_known (pages_of c.args.files.now) pages c.args.known c.in-One.number c.in-One.is known in
    IfOk-weaker c.name_of_page.result _ _ (λ (found : Option (String Global)) own. own ∙ ap (only_name c.args.front.now c.args.files.now c.args.places.now) one.2) (c.name_of_page.ensures one.0 one.1)

pub returns-in-Several : goal.returns-in-Several
returns-in-Several c = λ pages known.
    several_known c.args.front.now c.args.files.now c.args.places.now (pages_of c.args.files.now) pages c.args.known c.in-Several.is known
