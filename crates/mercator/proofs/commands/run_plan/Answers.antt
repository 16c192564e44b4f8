use Rattle.mercator.proofs.Prelude.{◌≡◌, inl, inr, Bool, IfErr, Result, sym, ap, subst, ◌∙◌, status_of_error, Begins, CommandError, error_lines}
use Rattle.mercator.proofs.Endings.{gains_four, gains_zero, incomplete, is_low, no_error, not_failed, no_gain, refused, used}
use Rattle.mercator.proofs.Serves.{reports_error, reports_in_use}
use Rattle.mercator.proofs.commands.run_plan.Goals as goal

pub returns-in-Ok-clause-statuses : goal.returns-in-Ok-clause-statuses
returns-in-Ok-clause-statuses g c = is_low c.in-Ok.is_broken c.verdict.result c.verdict.ensures

pub returns-in-Ok-clause-planned : goal.returns-in-Ok-clause-planned
returns-in-Ok-clause-planned g c = λ three. no_error c.in-Ok.is_broken c.verdict.result c.verdict.ensures (inr (inr (inl three)))

pub returns-in-Ok-clause-done : goal.returns-in-Ok-clause-done
returns-in-Ok-clause-done g c = gains_zero c.in-Ok.is_broken c.args.plan.now (g.I.Read.remaining c.args.input.now) (g.O.Write.contents c.args.out.now) (g.O.Write.contents c.run.new.out) c.verdict.result c.verdict.ensures c.in-Ok.ensures.done

pub returns-in-Ok-clause-broken : goal.returns-in-Ok-clause-broken
returns-in-Ok-clause-broken g c = gains_four c.in-Ok.is_broken c.args.plan.now (g.I.Read.remaining c.args.input.now) (g.O.Write.contents c.args.out.now) (g.O.Write.contents c.run.new.out) c.verdict.result c.verdict.ensures c.in-Ok.ensures.done

pub returns-in-Ok-clause-error : goal.returns-in-Ok-clause-error
returns-in-Ok-clause-error g c = λ some unbroken. absurd (not_failed c.in-Ok.is_broken c.verdict.result c.verdict.ensures some unbroken)

pub returns-in-Ok-clause-refused : goal.returns-in-Ok-clause-refused
returns-in-Ok-clause-refused g c = λ cannot.
    absurd (no_gain c.in-Ok.is_broken c.args.plan.now (g.I.Read.remaining c.args.input.now) (g.O.Write.contents c.args.out.now) (g.O.Write.contents c.run.new.out) cannot c.in-Ok.ensures.done)

pub returns-in-Ok-clause-incomplete : goal.returns-in-Ok-clause-incomplete
returns-in-Ok-clause-incomplete g c = λ two. absurd (no_error c.in-Ok.is_broken c.verdict.result c.verdict.ensures (inr (inl two)))

pub returns-in-Ok-clause-unreported : goal.returns-in-Ok-clause-unreported
returns-in-Ok-clause-unreported g c = λ two. absurd (no_error c.in-Ok.is_broken c.verdict.result c.verdict.ensures (inr (inl two)))

pub returns-in-Ok-clause-in_use : goal.returns-in-Ok-clause-in_use
returns-in-Ok-clause-in_use g c = λ five. absurd (no_error c.in-Ok.is_broken c.verdict.result c.verdict.ensures (inr (inr (inr five))))

pub returns-in-Err-clause-error : goal.returns-in-Err-clause-error
returns-in-Err-clause-error g c = λ some unbroken. record {
  error = c.in-Err.error;
  status = c.status.ensures.status;
  output =
      reports_error c.args.plan.now (g.E.Write.contents c.args.err.now) (g.E.Write.contents c.run.new.err) (g.E.Write.contents c.report_ending.new.err) _ (λ plain. ap (g.E.Write.contents) (c.run.ensures.silent plain)) c.run.ensures.noted c.report_ending.ensures;
  why = c.in-Err.ensures.error;
}

pub returns-in-Err-clause-refused : goal.returns-in-Err-clause-refused
returns-in-Err-clause-refused g c = λ cannot.
    let ends = refused c.args.plan.now (g.I.Read.remaining c.args.input.now) c.in-Err.error (c.run.new.out ≡ c.args.out.now) cannot c.in-Err.ensures.error in
    (c.status.ensures.status ∙ ends.0, ends.1)

pub returns-in-Err-clause-incomplete : goal.returns-in-Err-clause-incomplete
returns-in-Err-clause-incomplete g c =
    λ two. (incomplete c.args.plan.now (g.I.Read.remaining c.args.input.now) c.in-Err.error (c.run.new.out ≡ c.args.out.now) c.in-Err.ensures.error (sym c.status.ensures.status ∙ two)).0

pub returns-in-Err-clause-unreported : goal.returns-in-Err-clause-unreported
returns-in-Err-clause-unreported g c =
    λ two. (incomplete c.args.plan.now (g.I.Read.remaining c.args.input.now) c.in-Err.error (c.run.new.out ≡ c.args.out.now) c.in-Err.ensures.error (sym c.status.ensures.status ∙ two)).1

pub returns-in-Err-clause-in_use : goal.returns-in-Err-clause-in_use
returns-in-Err-clause-in_use g c = λ five.
    let status = sym c.status.ensures.status ∙ five in
    let plan = c.args.plan.now in
    let error = c.in-Err.error in
    let log = used plan (g.I.Read.remaining c.args.input.now) error (c.run.new.out ≡ c.args.out.now) c.in-Err.ensures.error status in
    let same =
    subst (λ (ended : Result Bool CommandError). IfErr ended (λ (error : CommandError). status_of_error error ≡ 5 → (c.run.new.input ≡ c.args.input.now) × (c.run.new.err ≡ c.args.err.now))) c.in-Err.is (c.run.ensures.in_use log.0) in (
      reports_in_use plan error (g.E.Write.contents c.args.err.now) (g.E.Write.contents c.report_ending.new.err) log.0 status
          (subst (λ e. Begins (g.E.Write.contents e) (g.E.Write.contents c.report_ending.new.err) (error_lines plan error)) (same status).1 c.report_ending.ensures),
      (same status).0,
      log.1,
    )
