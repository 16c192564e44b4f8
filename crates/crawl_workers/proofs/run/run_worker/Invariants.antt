use Rattle.crawl_workers.proofs.Prelude.{allows, Goes}
use Rattle.crawl_workers.proofs.run.run_worker.Given as goal

abbrev pub invariant-loop : goal.invariant-loop
invariant-loop g l = g.F.SessionFetch.is_of l.fetcher l.session
    × Goes g.K.Name.workers (allows g.K.Name.filter) (g.F.SessionFetch.meaning l.fetcher) l.fn.worker l.worker l.output
