use Rattle.page_anchors.proofs.Prelude.{◌∙◌, ap, arith, sym, is_eq, is_lt}
use Rattle.page_anchors.proofs.Searched.{half_before, half_after, none_found}
use Rattle.page_anchors.proofs.search.has_id.Goals as goal

pub halves-preserved-then-is_lt : goal.halves-preserved-then-is_lt
halves-preserved-then-is_lt c =
    half_after c.args.ids.now c.args.text.now c.id.result.now c.halves.low _ c.halves.high c.halves.invariant (omega (arith, c.halves-test.true)) c.id.ensures
    (ap is_lt (sym c.order-found.ensures) ∙ sym c.is_lt.ensures ∙ c.if-is_lt.true)

pub halves-preserved : goal.halves-preserved
halves-preserved c =
    half_before c.args.ids.now c.args.text.now c.id.result.now c.halves.low _ c.halves.high c.halves.invariant (omega arith) (omega (arith, c.halves-test.true)) c.id.ensures
    (ap is_eq (sym c.order-found.ensures) ∙ sym c.is_eq.ensures ∙ c.if-is_eq.false)
    (ap is_lt (sym c.order-found.ensures) ∙ sym c.is_lt.ensures ∙ c.if-is_lt.false)

pub returns : goal.returns
returns c = none_found c.args.ids.now c.args.text.now c.halves.low c.halves.high c.halves.invariant c.halves-test.false
