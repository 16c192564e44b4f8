use Rattle.site_check.proofs.Prelude.{◌∙◌, arith, common_steps, is_ignored, map, string_bytes, subst, text_of}
use Rattle.std.specs.List.{All}
use Rattle.site_check.proofs.LocatedRows.{keeps_text, text_there}
use Rattle.site_check.specs.Located.{IsRowPlace, located_row, placed_at}
use Rattle.site_check.specs.Locations.{location_of}
use Rattle.site_check.proofs.invalid.push_texts.Goals as goal

pub loop-index-preserved : goal.loop-index-preserved
loop-index-preserved c =
    let placed = map placed_at c.args.places.now in
    let all = c.args.texts.now in
    let i = c.loop-index.index in
    let one = c.index-texts-index.result in
    let own = map location_of c.in_ok-own.own.items in
    record {
      rows = c.in_ok-push_row.ensures.rows ∙ c.loop-index.invariant.rows;
      names = λ front files are. c.in_ok-push_row.ensures.names front files (c.loop-index.invariant.names front files are);
      anchors = c.in_ok-push_row.ensures.anchors ∙ c.loop-index.invariant.anchors;
      invalid = grind (arith, common_steps);
      leaving = c.in_ok-push_row.ensures.leaving ∙ c.loop-index.invariant.leaving;
      hints = c.in_ok-push_row.ensures.hints ∙ c.loop-index.invariant.hints;
      located =
          keeps_text placed one.link.now.kind (map text_of all) (map located_row c.args.all.now.items) (map located_row c.loop-index.all.items) (map located_row c.push_row.new.all.items) i (text_of one)
          (is_ignored (map string_bytes c.args.ignores.now) (text_of one)) own c.loop-index.invariant.located (text_there text_of all i one c.loop-index-test.true c.index-texts-index.is)
          (subst (λ target. All (IsRowPlace placed 2 i target) own) c.text.ensures c.in_ok-own.ensures.links) c.in_ok-own.ensures.order c.in_ok-push_row.ensures.located;
    }
