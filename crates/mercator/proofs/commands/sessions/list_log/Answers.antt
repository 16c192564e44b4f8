use Rattle.session_log.specs.Lists.{IsListed}
use Rattle.mercator.proofs.Prelude.{List, ℕ, inl, refl, subst, sym, err_from_is_err_and}
use Rattle.mercator.specs.declared.commands.planned.Plan.TheVariants as asks
use Rattle.mercator.proofs.Endings.{text_done, text_ends}
use Rattle.mercator.proofs.Serves.{list_fails}
use Rattle.mercator.proofs.commands.sessions.list_log.Goals as goal

pub returns-in_err-text-clause-error : goal.returns-in_err-text-clause-error
returns-in_err-text-clause-error g c = λ input.
    let r = c.from_residual in
    let same = err_from_is_err_and r.result r.ensures.1 in
    rw (same.1, same.2) (inl (list_fails c.in_err-text.field-0.0 c.in_err-text.ensures.error, refl))

pub returns-clause-done : goal.returns-clause-done
returns-clause-done g c = λ input.
    let is = subst (λ (text : List ℕ). IsListed c.args.plan.now text) (sym c.deref.ensures.value) c.in_ok-text.ensures.listed in
    text_done (asks.List c.args.plan.now) c.deref.result.now input _ _ c.end.result is c.end.ensures

pub returns-clause-error : goal.returns-clause-error
returns-clause-error g c = λ input.
    let is = subst (λ (text : List ℕ). IsListed c.args.plan.now text) (sym c.deref.ensures.value) c.in_ok-text.ensures.listed in
    text_ends (asks.List c.args.plan.now) c.deref.result.now input _ _ c.end.result _ is c.end.ensures
