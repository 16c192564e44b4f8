use Rattle.site_check.proofs.Prelude.{common_steps, ◌≡◌, ◌∙◌, Global, true, false, arith, sym, string_bytes, list_any}
use Rattle.std.proofs.Common.{String}
use Rattle.site_check.proofs.Fronts.{any_text}
use Rattle.site_check.specs.Broken.{matches_target}
use Rattle.site_check.proofs.unlisted.is_used_for.Goals as goal

pub returns-then-matches_target : goal.returns-then-matches_target
returns-then-matches_target c =
    let own : true ≡ list_any (λ (document : String Global). matches_target c.args.entry.now (string_bytes document)) c.args.documents.now = grind (arith, common_steps) in
    own ∙ sym (any_text string_bytes (matches_target c.args.entry.now) c.args.documents.now)

pub returns : goal.returns
returns c =
    let own : false ≡ list_any (λ (document : String Global). matches_target c.args.entry.now (string_bytes document)) c.args.documents.now = grind (arith, common_steps) in
    own ∙ sym (any_text string_bytes (matches_target c.args.entry.now) c.args.documents.now)
