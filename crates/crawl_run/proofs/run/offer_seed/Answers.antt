use Rattle.crawl_run.proofs.Prelude.{refl, Ok, Err, allows, offer_grows, offer_line}
use Rattle.crawl_run.proofs.JudgedRuns.{offered_more}
use Rattle.crawl_run.proofs.run.offer_seed.Goals as goal

pub returns-in-Ok-clause-grows : goal.returns-in-Ok-clause-grows
returns-in-Ok-clause-grows g c = offer_grows g.K.Name.workers _ _ c.args.seed.now 0 _ c.offer.ensures.books

pub returns-in-Ok-clause-line : goal.returns-in-Ok-clause-line
returns-in-Ok-clause-line g c = λ none. (none, λ _. offer_line g.K.Name.workers _ _ c.args.seed.now 0 c.in-Ok.field-0 c.in-Ok.ensures.books)

pub returns-in-Err-clause-grows : goal.returns-in-Err-clause-grows
returns-in-Err-clause-grows g c = offer_grows g.K.Name.workers _ _ c.args.seed.now 0 _ c.offer.ensures.books

pub returns-in-Ok-clause-offered : goal.returns-in-Ok-clause-offered
returns-in-Ok-clause-offered g c = λ first seeds so_far.
    let own = c.in-Ok.ensures in
    offered_more g.K.Name.workers (allows g.K.Name.filter) first c.args.seeder.now c.offer.new.self seeds c.args.seed.now (Ok c.in-Ok.field-0) c.args.before c.args.before (record { books = own.books; words = own.words; filtered = own.filtered }) refl so_far

pub returns-in-Err-clause-offered : goal.returns-in-Err-clause-offered
returns-in-Err-clause-offered g c = λ first seeds so_far.
    let own = c.in-Err.ensures in
    offered_more g.K.Name.workers (allows g.K.Name.filter) first c.args.seeder.now c.offer.new.self seeds c.args.seed.now (Err c.in-Err.refused) c.args.before c.with_refusal.result (record { books = own.books; words = own.words; filtered = own.filtered }) c.with_refusal.ensures so_far
