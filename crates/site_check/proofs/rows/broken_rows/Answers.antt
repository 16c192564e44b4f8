use Rattle.site_check.proofs.Prelude.{◌∙◌, ap, arith, common_steps, [], map, not, shown, string_bytes, subst}
use Rattle.std.specs.List.{All}
use Rattle.check_report.specs.declared.value.Kind.TheVariants.{NoPage}
use Rattle.site_check.proofs.LocatedRows.{keeps_more, text_there}
use Rattle.site_check.specs.Leads.{is_reported}
use Rattle.site_check.specs.Located.{IsRowPlace, located_row, page_text, placed_at}
use Rattle.site_check.specs.Locations.{location_of}
use Rattle.site_check.proofs.rows.broken_rows.Goals as goal

pub loop-index-preserved : goal.loop-index-preserved
loop-index-preserved c =
    let placed = map placed_at c.args.places.now in
    let front = c.args.input.front.now in
    let all = c.args.linked.now in
    let i = c.loop-index.index in
    let one = c.index-linked-index.result in
    let own = map location_of c.in_ok-own.own.items in
    record {
      rows = grind (arith, common_steps);
      names = c.in_ok-push_row.ensures.names c.loop-index.invariant.names;
      anchors = c.in_ok-push_row.ensures.anchors ∙ c.loop-index.invariant.anchors;
      invalid = c.in_ok-push_row.ensures.invalid ∙ c.loop-index.invariant.invalid;
      leaving = c.in_ok-push_row.ensures.leaving ∙ c.loop-index.invariant.leaving;
      hints = grind (arith, common_steps);
      located =
          keeps_more placed NoPage (map (page_text front) all) [] (map located_row c.loop-index.all.items) (map located_row c.push_row.new.all.items) i (page_text front one)
          (not (is_reported front (map string_bytes c.args.input.ignores.now) one.result.now)) own c.loop-index.invariant.located (text_there (page_text front) all i one c.loop-index-test.true c.index-linked-index.is)
          (subst (λ target. All (IsRowPlace placed 0 i target) own) (c.shown-text.ensures ∙ ap (shown front) c.as_str.ensures.value) c.in_ok-own.ensures.links) c.in_ok-own.ensures.order c.in_ok-push_row.ensures.located;
    }
