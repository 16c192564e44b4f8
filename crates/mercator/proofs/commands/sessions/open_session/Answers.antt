use Rattle.mercator.proofs.Prelude.{◌≡◌, subst, err_from_is_err_and}
use Rattle.session_log.specs.Plans.{settings_of}
use Rattle.mercator.proofs.PlanTexts.{filter_is}
use Rattle.mercator.proofs.Serves.{log_fails}
use Rattle.mercator.proofs.commands.sessions.open_session.Goals as goal

pub returns-in_err-opened-clause-error : goal.returns-in_err-opened-clause-error
returns-in_err-opened-clause-error g c =
    let within = c.args.plan.now.session.within in
    let r = c.from_residual-in_err-opened in
    let same = err_from_is_err_and r.result r.ensures.1 in
    rw (same.1, same.2) (log_fails within c.in_err-opened.field-0.0 (filter_is within _ c.in_ok-filter.ensures).0)

pub returns-clause-suffix : goal.returns-clause-suffix
returns-clause-suffix g c = (filter_is c.args.plan.now.session.within _ c.in_ok-filter.ensures).0

pub returns-clause-settings : goal.returns-clause-settings
returns-clause-settings g c =
    let plan = c.args.plan.now.session in
    let made = c.in_ok-opened.ensures.settings in
    (made.0, subst (λ suffixes. c.in_ok-opened.opened.1.settings ≡ settings_of plan suffixes made.0) (filter_is plan.within _ c.in_ok-filter.ensures).1 made.1)
