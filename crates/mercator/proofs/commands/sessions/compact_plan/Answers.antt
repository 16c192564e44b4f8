use Rattle.mercator.proofs.Prelude.{err_from_is_err_and}
use Rattle.mercator.proofs.PlanTexts.{filter_is}
use Rattle.mercator.proofs.Serves.{log_fails}
use Rattle.mercator.proofs.commands.sessions.compact_plan.Goals as goal

pub returns-in_err-left_out-clause-error : goal.returns-in_err-left_out-clause-error
returns-in_err-left_out-clause-error g c =
    let within = c.args.plan.now.log.session.within in
    let r = c.from_residual-in_err-left_out in
    let same = err_from_is_err_and r.result r.ensures.1 in
    rw (same.1, same.2) (log_fails within c.in_err-left_out.field-0.0 (filter_is within _ c.in_ok-_filter.ensures).0)

pub returns-clause-suffix : goal.returns-clause-suffix
returns-clause-suffix g c = (filter_is c.args.plan.now.log.session.within _ c.in_ok-_filter.ensures).0
