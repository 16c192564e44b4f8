use Rattle.crawl_workers.proofs.Lossless.{results_are_accepted, links_accepted}
use Rattle.crawl_workers.proofs.laws.worker_without_loss.Goals as goal

pub returns : goal.returns
returns c = record { fetched = results_are_accepted; linked = links_accepted }
