use Rattle.std.proofs.Common.{◌<◌, length}
use Rattle.crawl_session.proofs.Turns.{Served}
use Rattle.crawl_session.proofs.serving.serve_by.Given as goal

abbrev pub invariant-loop-turn : goal.invariant-loop-turn
invariant-loop-turn g l = record {
  room : 0 < length l.buffer;
  so_far : Served l.initial.session (g.I.Read.remaining l.initial.input) (g.I.Read.remaining l.input) (g.O.Write.contents l.initial.out) (g.O.Write.contents l.out) l.held.items l.session;
}
