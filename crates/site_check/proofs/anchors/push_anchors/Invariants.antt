use Rattle.site_check.proofs.Prelude.{◌≡◌, ◌++◌, ℕ, List, map, anchor_text, take, string_bytes, SiteFiles, AreNamed, anchors_in, hints_in, invalid_rows_in, leaving_in, rows_in}
use Rattle.site_check.specs.AnchorGroups.{anchor_row}
use Rattle.site_check.specs.Ignored.{anchors_left}
use Rattle.site_check.specs.Located.{KeepsRows, located_row, placed_at}
use Rattle.site_check.proofs.anchors.push_anchors.Given as goal

abbrev pub invariant-loop-index : goal.invariant-loop-index
invariant-loop-index l = record {
  rows : rows_in l.all.items ≡ rows_in l.initial.all.items;
  names : (front : List ℕ) (files : SiteFiles) → AreNamed front files l.initial.all.items → AreNamed front files l.all.items;
  anchors : anchors_in l.all.items ≡ anchors_in l.initial.all.items ++ anchors_left (map string_bytes l.ignores) (map anchor_row (take l.index l.anchors));
  invalid : invalid_rows_in l.all.items ≡ invalid_rows_in l.initial.all.items;
  leaving : leaving_in l.all.items ≡ leaving_in l.initial.all.items;
  hints : hints_in l.all.items ≡ hints_in l.initial.all.items;
  located : KeepsRows (map placed_at l.places) 1 (map anchor_text l.anchors) (map located_row l.initial.all.items) (map located_row l.all.items);
}
