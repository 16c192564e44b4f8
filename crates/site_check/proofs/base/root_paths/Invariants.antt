use Rattle.site_check.proofs.Prelude.{◌≡◌, flat_map, pointed, row_paths, take}
use Rattle.site_check.proofs.base.root_paths.Given as goal

abbrev pub invariant-loop-row : goal.invariant-loop-row
invariant-loop-row l = pointed l.paths.items ≡ flat_map (row_paths l.top) (take l.row-index l.rows)
