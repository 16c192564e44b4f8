use Rattle.site_check.proofs.Prelude.{◌∙◌, List, Some, map, subst, sym}
use Rattle.check_report.specs.declared.value.Place.{Place}
use Rattle.site_check.proofs.Placed.{item_at, slice_get_contains}
use Rattle.site_check.specs.Complete.{HasPoint}
use Rattle.site_check.specs.Locations.{location_of}
use Rattle.site_check.proofs.complete.has_place.Goals as goal

pub returns-else-not-is_row_of : goal.returns-else-not-is_row_of
returns-else-not-is_row_of c = λ is.
    let rows = c.args.rows.now in
    let row = c.in-Some.row.now in
    record {
      row = row;
      is_row = slice_get_contains rows c.args.at.row row (sym (item_at rows c.args.at.row (Some c.in-Some.row) c.in-Some.ensures.lookup));
      is_its = sym c.is_row_of.ensures ∙ c.if-not-is_row_of.false;
      has = subst (λ (own : List Place). HasPoint (map location_of own) (location_of c.args.place.now)) c.as_slice.ensures.value (c.has_point.ensures is);
    }
