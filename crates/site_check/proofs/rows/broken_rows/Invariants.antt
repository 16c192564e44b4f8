use Rattle.site_check.proofs.Prelude.{◌≡◌, [], take, map, string_bytes, flat_map, hints_at, hints_in, linked_at, result_at, rows_with, anchors_in, invalid_rows_in, leaving_in, AreNamed, rows_in}
use Rattle.site_check.specs.Located.{KeepsRows, located_row, page_text, placed_at}
use Rattle.site_check.proofs.rows.broken_rows.Given as goal

abbrev pub invariant-loop-index : goal.invariant-loop-index
invariant-loop-index l = record {
  rows : rows_in l.all.items ≡ flat_map (rows_with l.input.front.now (map string_bytes l.input.ignores.now)) (map linked_at (take l.index l.linked));
  names : AreNamed l.input.front.now l.named.files.now l.all.items;
  anchors : anchors_in l.all.items ≡ [];
  invalid : invalid_rows_in l.all.items ≡ [];
  leaving : leaving_in l.all.items ≡ [];
  hints : hints_in l.all.items ≡ flat_map (hints_at l.input.front.now (map string_bytes l.input.ignores.now) l.named.files.now) (map result_at (take l.index l.linked));
  located : KeepsRows (map placed_at l.places) 0 (map (page_text l.input.front.now) l.linked) [] (map located_row l.all.items);
}
