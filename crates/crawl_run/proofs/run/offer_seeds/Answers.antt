use Rattle.crawl_run.proofs.Prelude.{take, take_more, allows, all_logged_more}
use Rattle.crawl_run.proofs.run.offer_seeds.Goals as goal

pub loop-seed-preserved : goal.loop-seed-preserved
loop-seed-preserved g c =
    let seeds = c.args.seeds.now in
    let i = c.loop-seed.seed-index in
    let x = c.seed-item.result in
    record {
      logged = λ none.
          let own = c.offer_seed-lost.ensures.line none in
          rw (take_more seeds i x c.loop-seed-test.true, ← c.seed-item.is)
          (all_logged_more g.K.Name.workers (allows g.K.Name.filter) _ _ (take i seeds) x c.offer_seed-lost.ensures.grows (c.loop-seed.invariant.logged own.0) own.1);
      offered = rw (take_more seeds i x c.loop-seed-test.true, ← c.seed-item.is) (c.offer_seed-lost.ensures.offered c.args.seeder.now (take i seeds) c.loop-seed.invariant.offered);
    }
