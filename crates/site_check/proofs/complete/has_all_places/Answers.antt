use Rattle.site_check.proofs.Prelude.{◌≤◌, arith, length, map, string_bytes}
use Rattle.site_check.proofs.AllPlaced.{kept_all, kept_more}
use Rattle.site_check.specs.Complete.{IsKeptPlace}
use Rattle.site_check.proofs.complete.has_all_places.Goals as goal

pub loop-one-preserved : goal.loop-one-preserved
loop-one-preserved c =
    kept_more (IsKeptPlace c.args.targets.front.now (map string_bytes c.args.ignores.now) c.args.targets.linked.now c.args.targets.anchors.now c.args.rows.now) c.args.places.now c.loop-one.one-index c.one-item.result c.loop-one-test.true c.one-item.is
    c.loop-one.invariant c.in-Some.ensures

pub returns : goal.returns
returns c = λ is.
    let whole : length c.args.places.now ≤ c.loop-one.one-index = omega arith in
    kept_all (IsKeptPlace c.args.targets.front.now (map string_bytes c.args.ignores.now) c.args.targets.linked.now c.args.targets.anchors.now c.args.rows.now) c.args.places.now c.loop-one.one-index whole c.loop-one.invariant
