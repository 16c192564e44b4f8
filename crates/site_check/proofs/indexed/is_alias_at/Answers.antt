use Rattle.site_check.proofs.Prelude.{◌∙◌, Some, ap, sym}
use Rattle.std.proofs.lemmas.List.Folds.{list_any_at}
use Rattle.std.specs.Str.{bytes_eq}
use Rattle.site_files.specs.declared.alias.Alias.{Alias}
use Rattle.site_check.proofs.Placed.{item_at, slice_get_contains}
use Rattle.site_check.proofs.indexed.is_alias_at.Goals as goal

pub returns-in-Some : goal.returns-in-Some
returns-in-Some c = λ is.
    let aliases = c.args.aliases.now in
    let own = c.in-Some.alias.now in
    let at = slice_get_contains aliases c.args.number own (sym (item_at aliases c.args.number (Some c.in-Some.alias) c.in-Some.ensures.lookup)) in
    list_any_at (λ (a : Alias). bytes_eq a.url c.args.url.now) aliases at.0 own at.1 (ap (λ (a : Alias). bytes_eq a.url c.args.url.now) at.2 ∙ (sym c.has_url.ensures ∙ is))
