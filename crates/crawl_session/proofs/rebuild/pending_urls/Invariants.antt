use Rattle.crawl_session.specs.Rebuilding.{Writes, each_url, turns_below, waiting_url}
use Rattle.crawl_session.proofs.rebuild.pending_urls.Given as goal

abbrev pub invariant-loop-position : goal.invariant-loop-position
invariant-loop-position g l = Writes (each_url (waiting_url l.initial.session.settings) (turns_below l.position l.queues)) l.initial.session (g.O.Write.contents l.initial.out) (g.O.Write.contents l.out) l.left_out l.session
