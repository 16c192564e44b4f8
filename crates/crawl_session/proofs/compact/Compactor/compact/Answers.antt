use Rattle.crawl_session.proofs.Prelude.{subst, sym, Appends, lines, Appends-nil}
use Rattle.crawl_session.proofs.Compacted.{added, so_far_none, so_far_more}
use Rattle.crawl_session.proofs.compact.Compactor.compact.Goals as goal

pub loop-line-init : goal.loop-line-init
loop-line-init g c = so_far_none c.args.self.now c.args.session.now (g.O.Write.contents c.args.out.now) (lines c.args.log.now)

pub loop-line-preserved-in-Continue-branch-2 : goal.loop-line-preserved-in-Continue-branch-2
loop-line-preserved-in-Continue-branch-2 g c =
    let before = g.O.Write.contents c.loop-line.out in
    let line = c.in-Some.line.now in
    let written = subst (λ b. Appends before (g.O.Write.contents c.write_line.new.out) (added b line)) (sym c.if-needed.true) c.in_ok-write_line.ensures in
    so_far_more c.args.self.now c.args.session.now (g.O.Write.contents c.args.out.now) (lines c.args.log.now) (lines c.loop-line.rest.now) c.loop-line.self c.loop-line.session before line (lines c.in-Some.more.now) c.in_ok-needed.needed c.needs.new.self c.needs.new.session
    (g.O.Write.contents c.write_line.new.out) c.loop-line.invariant c.in-Some.ensures.cut c.in_ok-needed.ensures written

pub loop-line-preserved : goal.loop-line-preserved
loop-line-preserved g c =
    let before = g.O.Write.contents c.loop-line.out in
    let line = c.in-Some.line.now in
    let written = subst (λ b. Appends before before (added b line)) (sym c.if-needed.false) (Appends-nil before) in
    so_far_more c.args.self.now c.args.session.now (g.O.Write.contents c.args.out.now) (lines c.args.log.now) (lines c.loop-line.rest.now) c.loop-line.self c.loop-line.session before line (lines c.in-Some.more.now) c.in_ok-needed.needed c.needs.new.self c.needs.new.session
    before c.loop-line.invariant c.in-Some.ensures.cut c.in_ok-needed.ensures written
