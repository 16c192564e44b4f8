use Rattle.site_check.proofs.Prelude.{◌≡◌, ◌∙◌, true, sym, cond-true}
use Rattle.std.proofs.Common.{rules}
use Rattle.site_files.specs.Server.{after_front}
use Rattle.site_check.proofs.Origins.{path_after}
use Rattle.site_check.proofs.located.root_of.Goals as goal

pub returns-then-rules : goal.returns-then-rules
returns-then-rules c =
    let rooted : c.args.files.now.rules.now.rooted ≡ true = search rules in
    path_after _ _ _ c.strip_prefix.ensures.cases ∙ (λ i. after_front (c.origin.ensures i) (c.top.ensures i)) ∙ sym (cond-true _ _ _ rooted)
