use Rattle.mercator.proofs.Prelude.{inl, refl, sym, ◌∙◌, true≢false, err_from_is_err_and}
use Rattle.mercator.proofs.Serves.{breaks_off, gains_answers}
use Rattle.mercator.proofs.commands.sessions.serve_plan.Goals as goal

pub returns-in_err-session-clause-error : goal.returns-in_err-session-clause-error
returns-in_err-session-clause-error g c =
    let r = c.from_residual in
    let same = err_from_is_err_and r.result r.ensures.1 in
    rw (same.1, same.2) (inl (c.in_err-session.ensures.error, refl))

pub returns-in_err-serve-clause-error : goal.returns-in_err-serve-clause-error
returns-in_err-serve-clause-error g c =
    let r = c.from_residual-in_err-serve in
    let same = err_from_is_err_and r.result r.ensures.1 in
    rw (same.1, same.2) (breaks_off c.args.plan.now (g.I.Read.remaining c.args.input.now) c.in_err-serve.field-0.0 _ c.in_ok-session.ensures.suffix)

pub returns-in_err-serve-clause-unread : goal.returns-in_err-serve-clause-unread
returns-in_err-serve-clause-unread g c = λ bad. absurd (true≢false (sym bad ∙ c.in_ok-session.ensures.suffix))

pub returns-clause-done : goal.returns-clause-done
returns-clause-done g c =
    let made = c.in_ok-session in
    gains_answers made.session c.args.plan.now (g.I.Read.remaining c.args.input.now) (g.O.Write.contents c.args.out.now) (g.O.Write.contents c.serve.new.out) c.serve.new.session made.ensures.start made.ensures.settings made.ensures.suffix c.in_ok-serve.ensures

pub returns-clause-unread : goal.returns-clause-unread
returns-clause-unread g c = λ bad. absurd (true≢false (sym bad ∙ c.in_ok-session.ensures.suffix))
