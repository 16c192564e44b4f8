use Rattle.crawl_session.proofs.Prelude.{◌≡◌, length, Keeps}
use Rattle.crawl_session.proofs.serving.read_some.Given as goal

abbrev pub invariant-loop-turn : goal.invariant-loop-turn
invariant-loop-turn g l = (length l.buffer ≡ length l.initial.buffer) × Keeps (g.I.Read.remaining l.initial.input) (g.I.Read.remaining l.input)
