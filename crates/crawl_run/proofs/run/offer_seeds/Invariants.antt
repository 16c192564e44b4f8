use Rattle.crawl_run.proofs.Prelude.{◌≡◌, take, allows, AllLogged, all_losses, AreOffered}
use Rattle.crawl_run.proofs.run.offer_seeds.Given as goal

abbrev pub invariant-loop-seed : goal.invariant-loop-seed
invariant-loop-seed g l = record {
  logged : all_losses l.lost ≡ 0 → AllLogged g.K.Name.workers (allows g.K.Name.filter) l.seeder.book.log (take l.seed-index l.seeds);
  offered : AreOffered g.K.Name.workers (allows g.K.Name.filter) l.fn.seeder l.seeder (take l.seed-index l.seeds) l.lost;
}
