use Rattle.crawl_workers.proofs.Prelude.{◌≡◌, List, length, allows, WorkerId, AllGo}
use Rattle.crawl_workers.proofs.turns.rounds.Given as goal

abbrev pub invariant-loop : goal.invariant-loop
invariant-loop g l =
    (length l.runners ≡ length l.fn.runners)
    × ((starts : List WorkerId) → AllGo g.K.Name.workers (allows g.K.Name.filter) (g.F.SessionFetch.meaning l.fetcher) starts l.fn.runners → AllGo g.K.Name.workers (allows g.K.Name.filter) (g.F.SessionFetch.meaning l.fetcher) starts l.runners)
    × g.F.SessionFetch.is_of l.fetcher l.session
