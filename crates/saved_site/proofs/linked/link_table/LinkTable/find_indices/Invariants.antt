use Rattle.saved_site.proofs.Prelude.{◌≡◌, ◌+◌, ◌-◌, ◌≤◌, drop, length, KeepIndices, IsTableOf}
use Rattle.saved_site.proofs.LinkIndices.{Looked, none_count}
use Rattle.saved_site.proofs.linked.link_table.LinkTable.find_indices.Given as goal

abbrev pub invariant-texts : goal.invariant-texts
invariant-texts l = record {
  table : IsTableOf l.base l.self;
  keep : KeepIndices l.fn.self.urls l.self.urls;
  within : l.number ≤ length l.links;
  few : l.skipped ≤ l.number;
  looked : Looked l.base l.links l.self.urls l.indices.items (drop l.number l.links);
  counted : l.skipped + none_count l.base (drop l.number l.links) ≡ none_count l.base l.links;
}

abbrev pub decreases-texts : goal.decreases-texts
decreases-texts l = length l.links - l.number
