use Rattle.crawl_workers.proofs.Prelude.{ap, subst, ◌∙◌, sum_of, Goes}
use Rattle.crawl_workers.specs.Turn.{worker_in}
use Rattle.crawl_workers.specs.declared.turn.Step.{Step}
use Rattle.crawl_workers.proofs.Ends.{ran_by}
use Rattle.crawl_workers.proofs.turns.after_step.Goals as goal

pub returns-in-Closes : goal.returns-in-Closes
returns-in-Closes g c = λ allowed meaning start ran.
    let end = c.end.ensures in
    let output = c.args.output in
    let goes : Goes g.K.Name.workers allowed meaning start c.in-Closes.closed output =
    subst (λ (s : Step _). Goes g.K.Name.workers allowed meaning start (worker_in s) output) c.in-Closes.is ran in
    rw (end.closed, end.results, end.losses)
    (ran_by g.K.Name.workers allowed meaning start c.in-Closes.closed output.results.items output.offers c.end.result.lost (end.lost ∙ ap sum_of end.losses) goes)
