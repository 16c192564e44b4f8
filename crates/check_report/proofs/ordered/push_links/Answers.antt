use Rattle.check_report.proofs.Prelude.{ap, arith, map, ◌∙◌}
use Rattle.check_report.specs.Order.{link_of, places_by_file, shown_places}
use Rattle.check_report.proofs.Sorting.{pushed_links}
use Rattle.check_report.proofs.ordered.push_links.Goals as goal

pub returns : goal.returns
returns c =
    pushed_links (map link_of c.args.links.now.items) (map link_of c.loop-place.links.items) c.args.target.now c.args.all c.in_ok-places.places.items c.shown_places-shown.result.now c.loop-place.place-index
    (c.in_ok-places.ensures ∙ ap places_by_file c.as_slice.ensures.value) (c.shown_places-shown.ensures ∙ ap (shown_places c.args.all) c.as_slice-2.ensures.value) (omega arith) c.loop-place.invariant
