use Rattle.site_check.proofs.Prelude.{◌≡◌, ◌∙◌, IsKnown, List, None, PageFile, Some, ap, filter, pages_of, subst, sym}
use Rattle.site_check.proofs.Namesakes.{none_known}
use Rattle.site_check.specs.Names.{has_key, lower_at, lower_path}
use Rattle.site_check.specs.declared.names.Key.TheVariants.{Path}
use Rattle.site_check.proofs.names.only_path.Goals as goal

pub returns-in-Some : goal.returns-in-Some
returns-in-Some c =
    let files = c.args.named.files.now in
    let path = lower_path c.args.front.now c.args.target.now in
    let found : List PageFile = filter (has_key Path path) (pages_of files) in
    let there : Some c.in-Some.known.now ≡ lower_at c.args.named.lower.now.paths path = c.in-Some.ensures.value ∙ ap (lower_at c.args.named.lower.now.paths) (c.as_slice.ensures.value ∙ c.in_ok-path.ensures) in
    c.name_of_known.ensures found (subst (IsKnown (pages_of files) found) (sym there) (c.requires.is_lower.is_path path))

pub returns : goal.returns
returns c =
    let files = c.args.named.files.now in
    let path = lower_path c.args.front.now c.args.target.now in
    let found : List PageFile = filter (has_key Path path) (pages_of files) in
    let there : None ≡ lower_at c.args.named.lower.now.paths path = c.in-None.ensures.value ∙ ap (lower_at c.args.named.lower.now.paths) (c.as_slice.ensures.value ∙ c.in_ok-path.ensures) in
    none_known c.args.front.now files c.args.places.now (pages_of files) found (subst (IsKnown (pages_of files) found) (sym there) (c.requires.is_lower.is_path path))
