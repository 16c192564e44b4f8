use Rattle.crawl_session.proofs.Prelude.{lines}
use Rattle.crawl_session.proofs.Rebuilding.{front_more}
use Rattle.crawl_session.proofs.inventory.Inventory.read.Goals as goal

pub loop-line-preserved : goal.loop-line-preserved
loop-line-preserved c =
    front_more c.args.self.now c.args.session.now (lines c.args.log.now) (lines c.loop-line.rest.now) c.loop-line.self c.loop-line.session c.in-Some.line.now (lines c.in-Some.more.now) c.read_line.new.self c.read_line.new.session
    c.loop-line.invariant c.in-Some.ensures.cut c.in_ok-read_line.ensures
