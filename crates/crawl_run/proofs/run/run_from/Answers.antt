use Rattle.crawl_run.proofs.Prelude.{◌≡◌, ◌<◌, IfOk, sym, subst, entries_of, NothingLost, allows, all_losses}
use Rattle.crawl_run.proofs.EndedRuns.{nothing_lost_of}
use Rattle.crawl_run.proofs.JudgedRuns.{run_of}
use Rattle.crawl_run.proofs.run.run_from.Goals as goal

pub returns-clause-mode : goal.returns-clause-mode
returns-clause-mode g c = c.output_of.ensures.mode c.args.settings.now.mode

pub returns-clause-lost : goal.returns-clause-lost
returns-clause-lost g c =
    let made = c.in_ok-frontier in
    subst (λ filter. IfOk c.output_of.result (λ ran. all_losses ran.losses ≡ 0 → NothingLost (allows filter) c.args.seeds.now (entries_of ran.account) ran.results.items)) (sym c.requires.filter)
    (nothing_lost_of c.output_of.result g.K.Name.gate g.K.Name.workers (allows g.K.Name.filter) (g.F.SessionFetch.meaning c.args.fetcher.now) c.args.seeds.now made.workers.items c.in_ok-ends.ends.items c.end-sender.result c.offer_seeds-refused.result
    (subst (λ n. 0 < n) made.frontier.workers_are made.frontier.some.0) made.ensures.1 c.in_ok-ends.ensures.ran (λ none. rw c.end-sender.ensures.same (c.offer_seeds-refused.ensures.logged none))
    c.output_of.ensures.workers c.output_of.ensures.account c.output_of.ensures.found c.output_of.ensures.losses)

pub returns-clause-counted : goal.returns-clause-counted
returns-clause-counted g c =
    let made = c.in_ok-frontier in
    run_of c.output_of.result g.K.Name.gate g.K.Name.workers (allows g.K.Name.filter) (g.F.SessionFetch.meaning c.args.fetcher.now) c.args.seeds.now made.workers.items c.in_ok-ends.ends.items made.seeder c.offer_seeds-refused.new.seeder c.end-sender.result c.offer_seeds-refused.result
    made.ensures.1 c.in_ok-ends.ensures.ran made.ensures.2 c.offer_seeds-refused.ensures.offered c.end-sender.ensures.same
    c.output_of.ensures.workers c.output_of.ensures.account c.output_of.ensures.found c.output_of.ensures.losses
