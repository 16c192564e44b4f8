use Rattle.site_check.proofs.Prelude.{map, string_bytes, take}
use Rattle.std.specs.List.{All}
use Rattle.site_check.specs.Complete.{IsKeptPlace}
use Rattle.site_check.specs.Located.{placed_at}
use Rattle.site_check.proofs.complete.has_all_places.Given as goal

abbrev pub invariant-loop-one : goal.invariant-loop-one
invariant-loop-one l = All (IsKeptPlace l.targets.front.now (map string_bytes l.ignores) l.targets.linked.now l.targets.anchors.now l.rows) (map placed_at (take l.one-index l.places))
