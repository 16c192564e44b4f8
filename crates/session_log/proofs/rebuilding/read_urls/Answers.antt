use Rattle.session_log.proofs.Rebuilds.{reads_more}
use Rattle.session_log.proofs.rebuilding.read_urls.Goals as goal

pub loop-inventory-preserved : goal.loop-inventory-preserved
loop-inventory-preserved g c = reads_more _ _ _ _ _ _ c.loop-inventory.invariant c.in_ok-read-2.ensures
