use Rattle.saved_web.proofs.Prelude.{arith, lines, after_line}
use Rattle.saved_web.proofs.ReadWeb.{read_more, read_error}
use Rattle.saved_web.proofs.web.error_in.Goals as goal

pub loop-line-preserved : goal.loop-line-preserved
loop-line-preserved c = record {
  few = omega (arith, c.in-Some.ensures.shorter);
  read =
      read_more (lines c.args.bytes.now) c.loop-line.rest.now c.loop-line.number c.loop-line.above c.loop-line.pages c.in-Some.line.now c.in-Some.more.now (after_line c.in-Some.line.now) c.in-Ok.next c.check_line.new.pages c.in-Some.ensures.cut c.in-Ok.ensures.reports c.in-Ok.ensures.adds c.in-Ok.ensures.page c.in-Ok.ensures.follows c.loop-line.invariant.read;
  utf8 = λ more. c.loop-line.invariant.utf8 (c.in-Some.ensures.utf8 c.in-Ok.ensures.utf8 more);
}

pub returns-in-Err : goal.returns-in-Err
returns-in-Err c =
    read_error (lines c.args.bytes.now) c.loop-line.rest.now c.loop-line.number c.loop-line.above c.loop-line.pages c.in-Some.line.now c.in-Some.more.now c.in-Err.error c.in-Some.ensures.cut c.in-Err.ensures.reports c.loop-line.invariant.read

pub unreachable-requires : goal.unreachable-requires
unreachable-requires c = c.requires (c.loop-line.invariant.utf8 c.in_default.ensures.utf8)
