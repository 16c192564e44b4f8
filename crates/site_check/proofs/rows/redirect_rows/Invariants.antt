use Rattle.site_check.proofs.Prelude.{◌≡◌, take, map, flat_map, linked_at, ways_with, way_of}
use Rattle.site_check.proofs.rows.redirect_rows.Given as goal

abbrev pub invariant-loop-one : goal.invariant-loop-one
invariant-loop-one l = map way_of l.all.items ≡ flat_map (ways_with l.front) (map linked_at (take l.one-index l.linked))
