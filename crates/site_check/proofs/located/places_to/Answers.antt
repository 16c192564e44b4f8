use Rattle.site_check.proofs.Placed.{to_target}
use Rattle.site_check.proofs.located.places_to.Goals as goal

pub returns : goal.returns
returns c =
    to_target c.args.places.now c.split_at.result.1.now c.split_at-2.result.0.now c.partition_point-begin.result c.args.list c.args.number c.count_to.result c.split_at.ensures.back c.count_to.ensures
    c.split_at-2.ensures.front
