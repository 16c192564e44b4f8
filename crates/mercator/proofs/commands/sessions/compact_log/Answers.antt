use Rattle.mercator.proofs.Prelude.{[], refl, subst, arith, Appends-nil, Begins, err_from_is_err_and}
use Rattle.mercator.specs.ErrorText.{left_out_line}
use Rattle.mercator.proofs.commands.sessions.compact_log.Goals as goal

pub returns-in_err-left_out-clause-error : goal.returns-in_err-left_out-clause-error
returns-in_err-left_out-clause-error g c = grind (arith, err_from_is_err_and)

pub returns-in_err-left_out-clause-noted : goal.returns-in_err-left_out-clause-noted
returns-in_err-left_out-clause-noted g c = (record { all = 0; unfinished = 0 }, ([], _, refl, Appends-nil (g.E.Write.contents c.args.err.now)))

pub returns-clause-done : goal.returns-clause-done
returns-clause-done g c = λ input out. record { text = []; output = (c.in_ok-left_out.ensures.suffix, refl); gained = Appends-nil out }

pub returns-clause-noted : goal.returns-clause-noted
returns-clause-noted g c = (c.in_ok-left_out.left_out, subst (λ f. Begins (g.E.Write.contents c.args.err.now) (g.E.Write.contents c.note_left_out.new.err) (left_out_line f c.in_ok-left_out.left_out)) c.as_str.ensures.value c.note_left_out.ensures.noted)
