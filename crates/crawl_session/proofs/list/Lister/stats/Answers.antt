use Rattle.crawl_session.proofs.Listing.{stats_more}
use Rattle.crawl_session.proofs.list.Lister.stats.Goals as goal

pub returns-in-Json : goal.returns-in-Json
returns-in-Json g c =
    let written = g.O.Write.contents in
    stats_more c.args.self.now.form c.args.session.now c.stats_of.new.session c.stats_by_queue.new.session (written c.args.out.now) (written c.stats_of.new.out) (written c.stats_by_queue.new.out) c.stats_by_queue.result c.in-Json.is c.in_ok-stats_of.ensures c.stats_by_queue.ensures
