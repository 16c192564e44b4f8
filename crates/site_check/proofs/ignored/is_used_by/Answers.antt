use Rattle.site_check.proofs.Prelude.{common_steps, ◌≡◌, ◌∙◌, ℕ, List, true, false, arith, sym, matches, list_any, Bor}
use Rattle.site_check.proofs.Fronts.{any_pointed}
use Rattle.site_check.proofs.ignored.is_used_by.Goals as goal

pub returns-then-matches : goal.returns-then-matches
returns-then-matches c =
    let own : true ≡ list_any (λ (text : Bor (List ℕ)). matches c.args.entry.now text.now) c.args.texts.now = grind (arith, common_steps) in
    own ∙ sym (any_pointed (matches c.args.entry.now) c.args.texts.now)

pub returns : goal.returns
returns c =
    let own : false ≡ list_any (λ (text : Bor (List ℕ)). matches c.args.entry.now text.now) c.args.texts.now = grind (arith, common_steps) in
    own ∙ sym (any_pointed (matches c.args.entry.now) c.args.texts.now)
