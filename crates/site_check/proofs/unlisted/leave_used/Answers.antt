use Rattle.site_check.proofs.Prelude.{◌∙◌, ℕ, List, Global, ap, map, not, string_bytes, list_any}
use Rattle.std.proofs.Common.{rules, String}
use Rattle.std.proofs.lemmas.Fn.{filter_same}
use Rattle.site_check.proofs.Fronts.{texts_kept}
use Rattle.site_check.specs.Broken.{matches_target}
use Rattle.site_check.proofs.unlisted.leave_used.Goals as goal

pub returns : goal.returns
returns c =
    let test = λ (entry : List ℕ). not (list_any (matches_target entry) (map string_bytes c.args.documents.now)) in
    ap (map string_bytes) (filter_same _ (λ (entry : String Global). test (string_bytes entry)) _ (λ x b f' k. search rules) _ _ c.retain.ensures.filtered)
    ∙ texts_kept string_bytes test c.args.entries.now.items
