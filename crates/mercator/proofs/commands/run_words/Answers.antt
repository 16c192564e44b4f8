use Rattle.std.proofs.Common.{◌≡◌, arith, inr}
use Rattle.mercator.proofs.Checks.{ends_with_plan, ends_without_plan}
use Rattle.mercator.proofs.Serves.{done_words}
use Rattle.mercator.proofs.commands.run_words.Goals as goal

pub returns-in-Ok-clause-done : goal.returns-in-Ok-clause-done
returns-in-Ok-clause-done g c = λ zero. inr (c.in-Ok.plan, c.in-Ok.ensures.limits, c.run_plan.ensures.done zero)

pub returns-in-Ok-clause-broken : goal.returns-in-Ok-clause-broken
returns-in-Ok-clause-broken g c = λ four. (c.in-Ok.plan, c.in-Ok.ensures.limits, c.run_plan.ensures.broken four)

pub returns-in-Ok-clause-silent : goal.returns-in-Ok-clause-silent
returns-in-Ok-clause-silent g c =
    λ zero. done_words c.in-Ok.plan (g.E.Write.contents) (g.I.Read.remaining c.args.input.now) (g.O.Write.contents c.args.out.now) (g.O.Write.contents c.run_plan.new.out) c.args.err.now c.run_plan.new.err
    c.in-Ok.ensures.limits (c.run_plan.ensures.done zero) (λ plain. c.run_plan.ensures.silent plain zero) (c.run_plan.ensures.noted zero)

pub returns-in-Ok-clause-error : goal.returns-in-Ok-clause-error
returns-in-Ok-clause-error g c = λ one. inr (c.in-Ok.plan, c.in-Ok.ensures.limits, c.run_plan.ensures.error (omega (arith, one)) (λ four. omega (arith, one, four)))

pub returns-in-Ok-clause-incomplete : goal.returns-in-Ok-clause-incomplete
returns-in-Ok-clause-incomplete g c =
    λ two. (c.run_plan.ensures.unreported two, (c.in-Ok.plan, c.in-Ok.ensures.limits, c.run_plan.ensures.error (omega (arith, two)) (λ four. omega (arith, two, four))))

pub returns-in-Ok-clause-in_use : goal.returns-in-Ok-clause-in_use
returns-in-Ok-clause-in_use g c = λ five.
    let output = c.run_plan.ensures.in_use five in
    (output.1, output.2, (c.in-Ok.plan, c.in-Ok.ensures.limits, output.0))

pub returns-in-Err-clause-bad_arguments : goal.returns-in-Err-clause-bad_arguments
returns-in-Err-clause-bad_arguments g c = λ three. (c.in-Err.error, c.show.ensures.bad_arguments three)

pub returns-in-Ok-clause-check : goal.returns-in-Ok-clause-check
returns-in-Ok-clause-check g c =
    λ check. ends_with_plan c.args.arguments.now c.in-Ok.plan c.run_plan.result (g.I.Read.remaining c.args.input.now) (g.O.Write.contents c.args.out.now) (g.O.Write.contents c.run_plan.new.out) (g.E.Write.contents c.args.err.now) (g.E.Write.contents c.run_plan.new.err)
    (c.run_plan.new.out ≡ c.args.out.now) check c.in-Ok.ensures.agreed c.run_plan.ensures.done c.run_plan.ensures.broken c.run_plan.ensures.error

pub returns-in-Err-clause-check : goal.returns-in-Err-clause-check
returns-in-Err-clause-check g c =
    λ check. ends_without_plan c.args.arguments.now c.in-Err.error c.show.result (g.I.Read.remaining c.args.input.now) (g.O.Write.contents c.args.out.now) (g.O.Write.contents c.show.new.out) (g.E.Write.contents c.args.err.now) (g.E.Write.contents c.show.new.err)
    (c.show.new.out ≡ c.args.out.now) check c.in-Err.ensures.helps c.show.ensures.statuses c.show.ensures.helps c.show.ensures.error c.show.ensures.bad_command c.show.ensures.bad_arguments
