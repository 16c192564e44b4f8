use Rattle.site_check.proofs.Prelude.{◌∙◌, Some, sym}
use Rattle.site_check.proofs.AllPlaced.{contains_map}
use Rattle.site_check.proofs.Placed.{item_at, slice_get_contains}
use Rattle.site_check.specs.Locations.{location_of}
use Rattle.site_check.proofs.complete.has_point.Goals as goal

pub returns-in-Some : goal.returns-in-Some
returns-in-Some c = λ is.
    let places = c.args.places.now in
    let own = c.in-Some.own.now in
    record {
      own = location_of own;
      is_own = contains_map location_of places own (slice_get_contains places c.args.number own (sym (item_at places c.args.number (Some c.in-Some.own) c.in-Some.ensures.lookup)));
      same = sym c.is_same_point.ensures ∙ is;
    }
