use Rattle.std.specs.Str.Lines.{lines}
use Rattle.crawl_session.proofs.Listing.{front_more}
use Rattle.crawl_session.proofs.list.Lister.done.Goals as goal

pub loop-line-preserved : goal.loop-line-preserved
loop-line-preserved g c =
    let written = g.O.Write.contents in
    front_more c.args.self.now.form c.args.session.now (written c.args.out.now) (lines c.args.log.now) (lines c.loop-line.rest.now) c.loop-line.session (written c.loop-line.out) c.in-Some.line.now (lines c.in-Some.more.now) c.done_line.new.session (written c.done_line.new.out)
    c.loop-line.invariant c.in-Some.ensures.cut c.in_ok-done_line.ensures
