use Rattle.crawl_session.proofs.Prelude.{take}
use Rattle.crawl_session.specs.Rebuilding.{Writes, done_url, each_url}
use Rattle.crawl_session.proofs.rebuild.done_urls.Given as goal

abbrev pub invariant-loop-url : goal.invariant-loop-url
invariant-loop-url g l = Writes (each_url (done_url l.initial.session.settings) (take l.url-index l.urls)) l.initial.session (g.O.Write.contents l.initial.out) (g.O.Write.contents l.out) l.left_out l.session
