use Rattle.link_fixes.proofs.Prelude.{◌∙◌, sym}
use Rattle.link_fixes.proofs.Leading.{uneven}
use Rattle.link_fixes.proofs.links.all_lead_on.Goals as goal

pub returns-then-len : goal.returns-then-len
returns-then-len c =
    sym (uneven c.args.page.now c.args.moves.now c.args.old.now c.args.new.now (λ same. c.if-len.true (c.len.ensures.count ∙ same ∙ sym c.len-2.ensures.count)))
