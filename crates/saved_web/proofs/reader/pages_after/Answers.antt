use Rattle.saved_web.proofs.Prelude.{rules, arith, err_from_is_err_and}
use Rattle.saved_web.proofs.ReadWeb.{read_error, found_on, all_read}
use Rattle.saved_web.proofs.reader.pages_after.Goals as goal

pub loop-line-preserved : goal.loop-line-preserved
loop-line-preserved c = record {
  text = search rules;
  few = omega (arith, c.in-Some.ensures.shorter, c.loop-line.invariant.few);
  read = λ all start.
      found_on all c.loop-line.rest.now c.loop-line.number c.loop-line.above c.loop-line.pages c.in-Some.line.now c.in-Some.more.now c.in_ok-above.above c.add_line.new.pages
      c.in-Some.ensures.cut c.in-Some.ensures.following c.in_ok-above.ensures.reports c.in_ok-above.ensures.adds c.in_ok-above.ensures.page c.in_ok-above.ensures.follows (c.loop-line.invariant.read all start);
}

pub returns-in_err-above-clause-error : goal.returns-in_err-above-clause-error
returns-in_err-above-clause-error c = grind (arith, err_from_is_err_and, read_error)

pub returns-clause-read : goal.returns-clause-read
returns-clause-read c = λ all start.
    all_read all c.loop-line.rest.now c.loop-line.number c.loop-line.above c.loop-line.pages c.in_default.ensures.cut (c.loop-line.invariant.read all start)
