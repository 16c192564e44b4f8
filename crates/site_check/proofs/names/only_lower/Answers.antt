use Rattle.site_check.proofs.Prelude.{◌≡◌, ◌∙◌, IsKnown, List, None, PageFile, Some, ap, filter, pages_of, subst, sym}
use Rattle.std.specs.Str.{str_to_ascii_lowercase}
use Rattle.site_check.proofs.Namesakes.{none_meant}
use Rattle.site_check.specs.Names.{has_key, lower_at}
use Rattle.site_check.specs.declared.names.Key.TheVariants.{Name}
use Rattle.site_check.proofs.names.only_lower.Goals as goal

pub returns-in-Some : goal.returns-in-Some
returns-in-Some c =
    let files = c.args.named.files.now in
    let name = str_to_ascii_lowercase c.args.name.now in
    let found : List PageFile = filter (has_key Name name) (pages_of files) in
    let there : Some c.in-Some.known.now ≡ lower_at c.args.named.lower.now.names name = c.in-Some.ensures.value ∙ ap (lower_at c.args.named.lower.now.names) (c.as_slice.ensures.value ∙ c.in_ok-lower.ensures.ok) in
    c.one_or_path.ensures found (subst (IsKnown (pages_of files) found) (sym there) (c.requires.is_lower.is_name name))

pub returns : goal.returns
returns c =
    let files = c.args.named.files.now in
    let name = str_to_ascii_lowercase c.args.name.now in
    let found : List PageFile = filter (has_key Name name) (pages_of files) in
    let there : None ≡ lower_at c.args.named.lower.now.names name = c.in-None.ensures.value ∙ ap (lower_at c.args.named.lower.now.names) (c.as_slice.ensures.value ∙ c.in_ok-lower.ensures.ok) in
    none_meant c.args.front.now files c.args.places.now c.args.target.now (pages_of files) found (subst (IsKnown (pages_of files) found) (sym there) (c.requires.is_lower.is_name name))
