use Rattle.saved_site.proofs.Prelude.{◌≡◌, slice_get, take, filter_map}
use Rattle.saved_site.proofs.linked.linked_page.urls_at.Given as goal

abbrev pub invariant-loop-index : goal.invariant-loop-index
invariant-loop-index l = l.links.items ≡ filter_map (slice_get l.urls) (take l.index-index l.indices)
