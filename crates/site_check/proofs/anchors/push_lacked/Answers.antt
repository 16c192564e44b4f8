use Rattle.site_check.proofs.Prelude.{map}
use Rattle.site_check.proofs.LackedFound.{numbers_step}
use Rattle.site_check.specs.LackedLinks.{lack_of, links_of}
use Rattle.site_check.proofs.anchors.push_lacked.Goals as goal

pub loop-index-preserved : goal.loop-index-preserved
loop-index-preserved c =
    numbers_step (links_of c.args.links) c.links_to-begin.result.0 c.loop-index.index (map lack_of c.args.all.now.items) (map lack_of c.loop-index.all.items) (map lack_of c.push_number.new.all.items) c.in_ok-push_number.ensures c.loop-index.invariant
