use Rattle.site_check.proofs.Prelude.{◌∙◌, arith, inl, inr, is_alias, length, ap, subst, sym}
use Rattle.std.proofs.Common.{true≢false}
use Rattle.site_check.proofs.PageIndices.{AreEnough}
use Rattle.site_check.proofs.indexed.are_indexed.Goals as goal

pub returns-then-count-eq0 : goal.returns-then-count-eq0
returns-then-count-eq0 c = λ is own. inl (omega arith)

pub returns-then-are_enough : goal.returns-then-are_enough
returns-then-are_enough c = λ is own. inr (subst (AreEnough (length c.args.links.now)) c.indices_of.ensures (c.are_enough.ensures c.if-are_enough.true))

pub returns : goal.returns
returns c = λ is own. absurd (true≢false (sym (c.is_alias.ensures is) ∙ ap (is_alias c.args.aliases.now) c.as_str.ensures.value ∙ own))
