use Rattle.crawl_session.proofs.Rebuilding.{finish_ok}
use Rattle.crawl_session.proofs.rebuild.finish.Goals as goal

pub returns-clause-written : goal.returns-clause-written
returns-clause-written g c =
    let written = g.O.Write.contents in
    finish_ok c.args.url.now c.args.queue c.args.session.now c.take_url.new.session c.end_url.new.session (written c.args.out.now) (written c.take_url.new.out) (written c.end_url.new.out) c.end_url.result c.in_ok-take_url.ensures.written c.end_url.ensures.written
