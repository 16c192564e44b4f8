use Rattle.crawl_workers.proofs.Prelude.{◌≡◌, false, List, length, allows, WorkerId, AllGo, EndedBelow}
use Rattle.crawl_workers.proofs.turns.round.Given as goal

abbrev pub invariant-loop-i : goal.invariant-loop-i
invariant-loop-i g l =
    (length l.runners ≡ length l.fn.runners)
    × ((starts : List WorkerId) → AllGo g.K.Name.workers (allows g.K.Name.filter) (g.F.SessionFetch.meaning l.fetcher) starts l.fn.runners
    → AllGo g.K.Name.workers (allows g.K.Name.filter) (g.F.SessionFetch.meaning l.fetcher) starts l.runners × (l.going ≡ false → EndedBelow l.i l.runners))
    × g.F.SessionFetch.is_of l.fetcher l.session
