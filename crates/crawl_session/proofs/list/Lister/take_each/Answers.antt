use Rattle.crawl_session.specs.Listing.{taken_one}
use Rattle.crawl_session.proofs.Listing.{each_more}
use Rattle.crawl_session.proofs.list.Lister.take_each.Goals as goal

pub loop-url-preserved : goal.loop-url-preserved
loop-url-preserved g c =
    let written = g.O.Write.contents in
    each_more c.args.self.now.form (λ mid _. taken_one c.args.queue mid) c.loop-url._url c.args.session.now c.loop-url.session c.take_one.new.session (written c.args.out.now) (written c.loop-url.out) (written c.take_one.new.out) c.loop-url.invariant c.in_ok-take_one.ensures
