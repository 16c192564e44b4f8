use Rattle.site_check.proofs.Prelude.{◌∙◌, arith, common_steps, is_ignored, map, shown_at, string_bytes, subst}
use Rattle.std.specs.List.{All}
use Rattle.site_check.proofs.LocatedRows.{keeps_url, text_there}
use Rattle.site_check.specs.Located.{IsRowPlace, located_row, placed_at}
use Rattle.site_check.specs.Locations.{location_of}
use Rattle.site_check.proofs.leaving.push_outside.Goals as goal

pub loop-index-preserved : goal.loop-index-preserved
loop-index-preserved c =
    let placed = map placed_at c.args.places.now in
    let all = c.args.outside.now in
    let i = c.loop-index.index in
    let one = c.index-outside-index.result in
    let own = map location_of c.in_ok-own.own.items in
    record {
      rows = c.in_ok-push_row.ensures.rows ∙ c.loop-index.invariant.rows;
      names = λ front files are. c.in_ok-push_row.ensures.names front files (c.loop-index.invariant.names front files are);
      anchors = c.in_ok-push_row.ensures.anchors ∙ c.loop-index.invariant.anchors;
      invalid = c.in_ok-push_row.ensures.invalid ∙ c.loop-index.invariant.invalid;
      leaving = grind (arith, common_steps);
      hints = c.in_ok-push_row.ensures.hints ∙ c.loop-index.invariant.hints;
      located =
          keeps_url placed one.kind (map shown_at all) (map located_row c.args.all.now.items) (map located_row c.loop-index.all.items) (map located_row c.push_row.new.all.items) i (shown_at one)
          (is_ignored (map string_bytes c.args.ignores.now) (shown_at one)) own one.is_its_kind c.loop-index.invariant.located (text_there shown_at all i one c.loop-index-test.true c.index-outside-index.is)
          (subst (λ target. All (IsRowPlace placed 3 i target) own) c.as_str.ensures.value c.in_ok-own.ensures.links) c.in_ok-own.ensures.order c.in_ok-push_row.ensures.located;
    }
