use Rattle.site_check.proofs.Prelude.{◌∙◌, ℕ, List, Global, ap, map, not, string_bytes, is_ignored}
use Rattle.std.proofs.Common.{rules, String}
use Rattle.std.proofs.lemmas.Fn.{filter_same}
use Rattle.site_check.proofs.Fronts.{texts_kept}
use Rattle.site_check.proofs.unlisted.leave_ignored.Goals as goal

pub returns : goal.returns
returns c =
    let test = λ (text : List ℕ). not (is_ignored (map string_bytes c.args.entries.now) text) in
    ap (map string_bytes) (filter_same _ (λ (document : String Global). test (string_bytes document)) _ (λ x b f' k. search rules) _ _ c.retain.ensures.filtered)
    ∙ texts_kept string_bytes test c.args.documents.now.items
