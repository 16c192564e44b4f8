use Rattle.site_check.proofs.Prelude.{map}
use Rattle.site_check.proofs.Orders.{put_ascends}
use Rattle.site_check.proofs.Placed.{row_more}
use Rattle.site_check.specs.Located.{placed_at}
use Rattle.site_check.specs.Locations.{location_of}
use Rattle.site_check.proofs.located.row_places.Goals as goal

pub loop-one-preserved : goal.loop-one-preserved
loop-one-preserved c =
    let target = c.args.target.now in
    let before = map location_of c.loop-one.all.items in
    let new = map location_of c.push_location.new.all.items in
    let pushed = c.in_ok-push_location.ensures in
    record {
      links =
          row_more (map placed_at c.args.places.now) c.args.list c.args.number target c.places_to-own.result.now c.loop-one.one-index c.one-item.result before new c.places_to-own.ensures c.loop-one-test.true
          c.one-item.is pushed c.loop-one.invariant.links;
      order = put_ascends target before new (location_of c.one-item.result.place) pushed c.loop-one.invariant.order;
    }
