use Rattle.site_check.proofs.Prelude.{◌≡◌, ◌∙◌, Global, IfOk-weaker, IsKnown, List, None, Option, PageFile, Some, filter, has_name, named_at, pages_of, subst, sym}
use Rattle.std.proofs.Common.{String}
use Rattle.std.specs.Str.{str_to_ascii_lowercase}
use Rattle.site_check.proofs.Namesakes.{others_count, own_count}
use Rattle.site_check.specs.Names.{has_key}
use Rattle.site_check.specs.declared.names.Key.TheVariants.{Name}
use Rattle.site_check.proofs.names.only_name.Goals as goal

pub returns-in-Some : goal.returns-in-Some
returns-in-Some c =
    let files = c.args.named.files.now in
    let name = c.args.name.now in
    let found : List PageFile = filter (has_name name) (pages_of files) in
    let others : List PageFile = filter (has_key Name (str_to_ascii_lowercase name)) (pages_of files) in
    let there : Some c.in-Some.known.now ≡ named_at c.args.named.exact.now name = c.in-Some.ensures.value in
    let known = subst (IsKnown (pages_of files) found) (sym there) (c.requires.is_exact name) in
    IfOk-weaker c.one_or_path.result _ _
    (λ (text : Option (String Global)) own. own ∙ own_count c.args.front.now files c.args.places.now c.args.target.now (pages_of files) found others c.in-Some.known.now known)
    (c.one_or_path.ensures found known)

pub returns-in-None : goal.returns-in-None
returns-in-None c =
    let files = c.args.named.files.now in
    let name = c.args.name.now in
    let found : List PageFile = filter (has_name name) (pages_of files) in
    let others : List PageFile = filter (has_key Name (str_to_ascii_lowercase name)) (pages_of files) in
    let there : None ≡ named_at c.args.named.exact.now name = c.in-None.ensures.value in
    let known = subst (IsKnown (pages_of files) found) (sym there) (c.requires.is_exact name) in
    IfOk-weaker c.only_lower.result _ _
    (λ (text : Option (String Global)) own. own ∙ others_count c.args.front.now files c.args.places.now c.args.target.now (pages_of files) found others known)
    c.only_lower.ensures
