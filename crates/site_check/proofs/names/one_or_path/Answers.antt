use Rattle.site_check.proofs.Prelude.{◌∙◌, Global, IfOk-weaker, Option, ap, pages_of}
use Rattle.std.proofs.Common.{String}
use Rattle.site_check.proofs.Namesakes.{one_known, paths_count}
use Rattle.site_check.specs.Names.{one_or_path}
use Rattle.site_check.proofs.names.one_or_path.Goals as goal

pub returns-in-One : goal.returns-in-One
returns-in-One c = λ pages known.
    let files = c.args.named.files.now in
    let one = one_known (pages_of files) pages c.args.known c.in-One.number c.in-One.is known in
    IfOk-weaker c.name_of_page.result _ _
    (λ (found : Option (String Global)) own. own ∙ ap (one_or_path c.args.front.now files c.args.places.now c.args.target.now) one.2)
    (c.name_of_page.ensures one.0 one.1)

pub returns-in-Several : goal.returns-in-Several
returns-in-Several c = λ pages known.
    let files = c.args.named.files.now in
    IfOk-weaker c.only_path.result _ _
    (λ (found : Option (String Global)) own. own ∙ paths_count c.args.front.now files c.args.places.now c.args.target.now (pages_of files) pages c.args.known c.in-Several.is known)
    c.only_path.ensures
