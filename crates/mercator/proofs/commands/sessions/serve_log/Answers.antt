use Rattle.mercator.proofs.Prelude.{inl, refl, sym, ◌∙◌, true≢false, arith, err_from_is_err_and}
use Rattle.mercator.proofs.Serves.{ends_logged, gains_on, plain_break}
use Rattle.mercator.proofs.commands.sessions.serve_log.Goals as goal

pub returns-in_err-log-clause-error : goal.returns-in_err-log-clause-error
returns-in_err-log-clause-error g c =
    let r = c.from_residual in
    let same = err_from_is_err_and r.result r.ensures.1 in
    rw (same.1, same.2) (inl (c.in_err-log.ensures.error, refl))

pub returns-in_err-log-clause-in_use : goal.returns-in_err-log-clause-in_use
returns-in_err-log-clause-in_use g c =
    let r = c.from_residual in
    let same = err_from_is_err_and r.result r.ensures.1 in
    rw (same.1, same.2) (λ five. (refl, c.in_err-log.ensures.in_use five))

pub returns-in_err-serve_logged-clause-error : goal.returns-in_err-serve_logged-clause-error
returns-in_err-serve_logged-clause-error g c =
    let r = c.from_residual-in_err-serve_logged in
    let same = err_from_is_err_and r.result r.ensures.1 in
    rw (same.1, same.2) (ends_logged c.args.plan.now (g.I.Read.remaining c.args.input.now) c.in_err-serve_logged.field-0.0 _ c.in_ok-log.ensures.suffix c.in_err-serve_logged.ensures.error)

pub returns-in_err-serve_logged-clause-in_use : goal.returns-in_err-serve_logged-clause-in_use
returns-in_err-serve_logged-clause-in_use g c = grind (arith, err_from_is_err_and, plain_break)

pub returns-in_err-serve_logged-clause-unread : goal.returns-in_err-serve_logged-clause-unread
returns-in_err-serve_logged-clause-unread g c = λ bad. absurd (true≢false (sym bad ∙ c.in_ok-log.ensures.suffix))

pub returns-clause-done : goal.returns-clause-done
returns-clause-done g c =
    let made = c.in_ok-log in
    gains_on c.args.plan.now made.session (g.I.Read.remaining c.args.input.now) (g.O.Write.contents c.args.out.now) (g.O.Write.contents c.serve_logged.new.out) c.serve_logged.new.session made.ensures.suffix made.ensures.resumed c.in_ok-serve_logged.ensures.served

pub returns-clause-unread : goal.returns-clause-unread
returns-clause-unread g c = λ bad. absurd (true≢false (sym bad ∙ c.in_ok-log.ensures.suffix))
