use Rattle.crawl_workers.proofs.Prelude.{ap, ◌∙◌, allows, sum_of}
use Rattle.crawl_workers.proofs.Ends.{ran_by}
use Rattle.crawl_workers.proofs.Outcomes.{progress_none}
use Rattle.crawl_workers.proofs.run.run_worker.Goals as goal

pub loop-init : goal.loop-init
loop-init g c =
    let new = c.new-output.ensures in (
      c.open_session-session.ensures,
      progress_none g.K.Name.workers (allows g.K.Name.filter) (g.F.SessionFetch.meaning c.args.fetcher.now) c.args.worker c.new-output.result new.nothing.0 new.nothing.1 (new.recent g.K.Name.workers _),
    )

pub loop-preserved-in-Worked : goal.loop-preserved-in-Worked
loop-preserved-in-Worked g c = (c.in-Worked.ensures.right, c.in-Worked.ensures.goes c.args.worker c.loop.invariant.1)

pub loop-preserved-then-spins-lt-SPINS : goal.loop-preserved-then-spins-lt-SPINS
loop-preserved-then-spins-lt-SPINS g c = (c.in-Waits.ensures.right, c.in-Waits.ensures.goes c.args.worker c.loop.invariant.1)

pub loop-preserved : goal.loop-preserved
loop-preserved g c = (c.in-Waits.ensures.right, c.in-Waits.ensures.goes c.args.worker c.loop.invariant.1)

pub returns-in-Closes : goal.returns-in-Closes
returns-in-Closes g c =
    let end = c.end.ensures in
    let output = c.turn.new.output in
    rw (end.closed, end.results, end.losses)
    (ran_by g.K.Name.workers (allows g.K.Name.filter) (g.F.SessionFetch.meaning c.args.fetcher.now) c.args.worker c.in-Closes.closed output.results.items output.offers c.end.result.lost (end.lost ∙ ap sum_of end.losses)
    (c.in-Closes.ensures.goes c.args.worker c.loop.invariant.1))
