use Rattle.crawl_session.proofs.Prelude.{take}
use Rattle.crawl_session.specs.Rebuilding.{Writes, each_url, turn, waiting_url}
use Rattle.crawl_session.proofs.rebuild.write_turn.Given as goal

abbrev pub invariant-loop-queue : goal.invariant-loop-queue
invariant-loop-queue g l = Writes (each_url (waiting_url l.initial.session.settings) (turn l.position (take l.queue-index l.queues))) l.initial.session (g.O.Write.contents l.initial.out) (g.O.Write.contents l.out) l.left_out l.session
