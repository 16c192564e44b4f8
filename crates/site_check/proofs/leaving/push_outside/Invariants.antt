use Rattle.site_check.proofs.Prelude.{◌≡◌, ◌++◌, ℕ, List, flat_map, map, outside_at, row_at, take, string_bytes, SiteFiles, AreNamed, anchors_in, hints_in, invalid_rows_in, leaving_in, rows_in, shown_at}
use Rattle.site_check.specs.Located.{KeepsRows, located_row, placed_at}
use Rattle.site_check.proofs.leaving.push_outside.Given as goal

abbrev pub invariant-loop-index : goal.invariant-loop-index
invariant-loop-index l = record {
  rows : rows_in l.all.items ≡ rows_in l.initial.all.items;
  names : (front : List ℕ) (files : SiteFiles) → AreNamed front files l.initial.all.items → AreNamed front files l.all.items;
  anchors : anchors_in l.all.items ≡ anchors_in l.initial.all.items;
  invalid : invalid_rows_in l.all.items ≡ invalid_rows_in l.initial.all.items;
  leaving : leaving_in l.all.items ≡ leaving_in l.initial.all.items ++ flat_map (row_at (map string_bytes l.ignores)) (map outside_at (take l.index l.outside));
  hints : hints_in l.all.items ≡ hints_in l.initial.all.items;
  located : KeepsRows (map placed_at l.places) 3 (map shown_at l.outside) (map located_row l.initial.all.items) (map located_row l.all.items);
}
