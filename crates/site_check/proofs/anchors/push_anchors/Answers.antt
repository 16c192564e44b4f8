use Rattle.site_check.proofs.Prelude.{◌∙◌, arith, common_steps, anchor_text, is_ignored, map, string_bytes, subst}
use Rattle.std.specs.List.{All}
use Rattle.check_report.specs.declared.value.Kind.TheVariants.{NoAnchor}
use Rattle.site_check.proofs.LocatedRows.{keeps_more, text_there}
use Rattle.site_check.specs.Located.{IsRowPlace, located_row, placed_at}
use Rattle.site_check.specs.Locations.{location_of}
use Rattle.site_check.proofs.anchors.push_anchors.Goals as goal

pub loop-index-preserved : goal.loop-index-preserved
loop-index-preserved c =
    let placed = map placed_at c.args.places.now in
    let all = c.args.anchors.now in
    let i = c.loop-index.index in
    let one = c.index-anchors-index.result in
    let own = map location_of c.in_ok-own.own.items in
    record {
      rows = c.in_ok-push_anchor.ensures.rows ∙ c.loop-index.invariant.rows;
      names = λ front files are. c.in_ok-push_anchor.ensures.names front files (c.loop-index.invariant.names front files are);
      anchors = grind (arith, common_steps);
      invalid = c.in_ok-push_anchor.ensures.invalid ∙ c.loop-index.invariant.invalid;
      leaving = c.in_ok-push_anchor.ensures.leaving ∙ c.loop-index.invariant.leaving;
      hints = c.in_ok-push_anchor.ensures.hints ∙ c.loop-index.invariant.hints;
      located =
          keeps_more placed NoAnchor (map anchor_text all) (map located_row c.args.all.now.items) (map located_row c.loop-index.all.items) (map located_row c.push_anchor.new.all.items) i (anchor_text one)
          (is_ignored (map string_bytes c.args.ignores.now) (anchor_text one)) own c.loop-index.invariant.located (text_there anchor_text all i one c.loop-index-test.true c.index-anchors-index.is)
          (subst (λ target. All (IsRowPlace placed 1 i target) own) c.as_str.ensures.value c.in_ok-own.ensures.links) c.in_ok-own.ensures.order c.in_ok-push_anchor.ensures.located;
    }
