use Rattle.site_check.proofs.Prelude.{◌≡◌, map, true}
use Rattle.std.specs.List.{All}
use Rattle.site_check.specs.Located.{IsRowPlace, placed_at}
use Rattle.site_check.specs.Locations.{ascends, location_of}
use Rattle.site_check.proofs.located.row_places.Given as goal

abbrev pub invariant-loop-one : goal.invariant-loop-one
invariant-loop-one l = record {
  links : All (IsRowPlace (map placed_at l.places) l.list l.number l.target) (map location_of l.all.items);
  order : ascends (map location_of l.all.items) ≡ true;
}
