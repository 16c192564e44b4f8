use Rattle.site_check.proofs.Prelude.{◌<◌, ◌^◌, arith, length, map}
use Rattle.std.proofs.Common.{rules}
use Rattle.site_check.proofs.AnchorGroups.{one_more, source_end, source_more}
use Rattle.site_check.specs.AnchorGroups.{source_count}
use Rattle.site_check.specs.LackedLinks.{lack_of}
use Rattle.site_check.proofs.missing_anchors.page_count.Goals as goal

pub loop-link-init : goal.loop-link-init
loop-link-init c = record { bound = omega arith; counted = omega arith }

pub loop-link-preserved : goal.loop-link-preserved
loop-link-preserved c =
    let links = c.args.links.now in
    let fits : length links < 2 ^ 64 = search rules in
    let added = c.with_source-count.ensures (omega (arith, fits, c.loop-link.invariant.bound, c.loop-link-test.true)) in
    record {
      bound = one_more c.loop-link.last c.link-item.result.source c.loop-link.count c.with_source-count.result c.loop-link.link-index added c.loop-link.invariant.bound;
      counted = source_more links c.loop-link.link-index c.link-item.result c.loop-link.last c.loop-link.count c.with_source-count.result (source_count (map lack_of links)) c.loop-link-test.true c.link-item.is added c.loop-link.invariant.counted;
    }

pub returns : goal.returns
returns c = source_end c.args.links.now c.loop-link.link-index c.loop-link.last c.loop-link.count (source_count (map lack_of c.args.links.now)) c.loop-link-test.false c.loop-link.invariant.counted
