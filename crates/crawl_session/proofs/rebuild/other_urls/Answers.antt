use Rattle.crawl_session.proofs.Prelude.{take}
use Rattle.std.proofs.lemmas.List.{take_more}
use Rattle.crawl_session.specs.Rebuilding.{other_url}
use Rattle.crawl_session.proofs.Rebuilding.{each_more}
use Rattle.crawl_session.proofs.rebuild.other_urls.Goals as goal

pub loop-url-preserved : goal.loop-url-preserved
loop-url-preserved g c =
    let written = g.O.Write.contents in
    let i = c.loop-url.url-index in
    let more = take_more c.args.urls.now i c.url-item.result c.loop-url-test.true in
    rw (c.in_ok-left_out.ensures, more, ← c.url-item.is)
    (each_more other_url (take i c.args.urls.now) c.url-item.result c.args.session.now c.loop-url.session c.other_url.new.session (written c.args.out.now) (written c.loop-url.out) (written c.other_url.new.out) c.loop-url.left_out c.in_ok-more.more c.loop-url.invariant c.in_ok-more.ensures.written)
