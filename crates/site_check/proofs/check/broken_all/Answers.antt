use Rattle.site_check.proofs.Prelude.{map}
use Rattle.site_check.proofs.LocatedRows.{all_located}
use Rattle.site_check.specs.Located.{located_row, placed_at}
use Rattle.site_check.proofs.check.broken_all.Goals as goal

pub returns-clause-located : goal.returns-clause-located
returns-clause-located c =
    let others = c.args.others in
    all_located (map placed_at c.args.places.now) c.args.input.front.now c.args.linked.now others.anchors.now others.invalid.now others.outside.now (map located_row c.in_ok-all.all.items) (map located_row c.push_anchors.new.all.items)
    (map located_row c.push_texts.new.all.items) (map located_row c.push_outside.new.all.items) c.in_ok-all.ensures.located c.in_ok-push_anchors.ensures.located c.in_ok-push_texts.ensures.located c.in_ok-push_outside.ensures.located
