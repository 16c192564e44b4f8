use Rattle.mercator.proofs.Prelude.{arith, err_from_is_err_and}
use Rattle.mercator.proofs.Serves.{log_fails, plain_use, resumes}
use Rattle.mercator.proofs.commands.sessions.resumed_session.Goals as goal

pub returns-in_err-opened-clause-error : goal.returns-in_err-opened-clause-error
returns-in_err-opened-clause-error g c =
    let r = c.from_residual in
    let same = err_from_is_err_and r.result r.ensures.1 in
    rw (same.1, same.2) c.in_err-opened.ensures.error

pub returns-in_err-log-clause-error : goal.returns-in_err-log-clause-error
returns-in_err-log-clause-error g c =
    let r = c.from_residual-in_err-log in
    let same = err_from_is_err_and r.result r.ensures.1 in
    rw (same.1, same.2) (log_fails c.args.plan.now.session.within c.in_err-log.field-0.0 c.in_ok-opened.ensures.suffix)

pub returns-in_err-log-clause-in_use : goal.returns-in_err-log-clause-in_use
returns-in_err-log-clause-in_use g c = grind (arith, err_from_is_err_and, plain_use)

pub returns-clause-suffix : goal.returns-clause-suffix
returns-clause-suffix g c = c.in_ok-opened.ensures.suffix

pub returns-clause-resumed : goal.returns-clause-resumed
returns-clause-resumed g c =
    let made = c.in_ok-opened in
    resumes made.session c.args.plan.now made.ensures.settings.0 c.resume_noted.new.session made.ensures.start made.ensures.settings.1 c.in_ok-log.ensures.resumed
