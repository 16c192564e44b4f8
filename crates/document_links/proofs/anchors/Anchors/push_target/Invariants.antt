use Rattle.document_links.proofs.Prelude.{◌≡◌, ◌++◌, take}
use Rattle.std.specs.Prelude.{flat_map}
use Rattle.document_links.specs.Keeping.{IsEven, row_of, rows_of}
use Rattle.document_links.proofs.anchors.Anchors.push_target.Given as goal

abbrev pub invariant-loop-link : goal.invariant-loop-link
invariant-loop-link l = record {
  ids : l.self.ids ≡ l.initial.self.ids;
  ends : l.self.ends.items ≡ l.initial.self.ends.items;
  even : IsEven l.self;
  rows : rows_of l.self ≡ rows_of l.initial.self ++ flat_map (row_of l.raw.texts l.is_own l.initial.self.ids) (take l.link-index l.links);
}
