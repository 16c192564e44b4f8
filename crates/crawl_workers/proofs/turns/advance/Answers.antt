use Rattle.crawl_workers.proofs.Prelude.{sym, subst, allows, RunnerRan}
use Rattle.crawl_workers.proofs.turns.advance.Goals as goal

pub returns-clause-ran : goal.returns-clause-ran
returns-clause-ran g c = λ start ran.
    c.next_runner-after.ensures.ran start (subst (RunnerRan g.K.Name.workers (allows g.K.Name.filter) (g.F.SessionFetch.meaning c.args.fetcher.now) start) (sym c.replace-before.ensures.value) ran)

pub returns-clause-ended : goal.returns-clause-ended
returns-clause-ended g c = λ start ran.
    let allowed = allows g.K.Name.filter in
    let meaning = g.F.SessionFetch.meaning c.args.fetcher.now in
    c.continues-continues.ensures allowed meaning start (c.next_runner-after.ensures.ran start (subst (RunnerRan g.K.Name.workers allowed meaning start) (sym c.replace-before.ensures.value) ran))
