use Rattle.crawl_workers.proofs.Prelude.{ap, WorkerId, allows}
use Rattle.crawl_workers.proofs.Outcomes.{progress_more, progress_still}
use Rattle.crawl_workers.proofs.turn.take.Goals as goal

pub returns-in-Busy-clause-goes : goal.returns-in-Busy-clause-goes
returns-in-Busy-clause-goes g c = λ start goes.
    let is = c.done.ensures.1 in
    progress_more g.K.Name.workers (allows g.K.Name.filter) (g.F.SessionFetch.meaning c.args.fetcher.now) start c.args.worker c.done.result c.in-Busy.busy c.work.new.busy c.args.output.now c.work.new.output
    c.in-Busy.ensures.0 c.in-Busy.ensures.1 (ap (λ (x : WorkerId). x.queue) is) (ap (λ (x : WorkerId). x.taken) is) (ap (λ (x : WorkerId). x.book) is) c.work.ensures.outcome goes

pub returns-in-Idle-clause-goes : goal.returns-in-Idle-clause-goes
returns-in-Idle-clause-goes g c = λ start goes.
    let is = c.in-Idle.ensures.1 in
    progress_still g.K.Name.workers (allows g.K.Name.filter) (g.F.SessionFetch.meaning c.args.fetcher.now) start c.args.worker c.in-Idle.worker _ _ (ap (λ (x : WorkerId). x.queue) is) (ap (λ (x : WorkerId). x.taken) is) (ap (λ (x : WorkerId). x.book) is) goes

pub returns-in-Closed-clause-goes : goal.returns-in-Closed-clause-goes
returns-in-Closed-clause-goes g c = λ start goes.
    let is = c.in-Closed.ensures.1 in
    progress_still g.K.Name.workers (allows g.K.Name.filter) (g.F.SessionFetch.meaning c.args.fetcher.now) start c.args.worker c.in-Closed.closed _ _ (ap (λ (x : WorkerId). x.queue) is) (ap (λ (x : WorkerId). x.taken) is) (ap (λ (x : WorkerId). x.book) is) goes
