use Rattle.site_check.proofs.Prelude.{◌≡◌, map, outside_targets, string_bytes, take, target_at}
use Rattle.site_check.proofs.leaving.outside_targets.Given as goal

abbrev pub invariant-loop-index : goal.invariant-loop-index
invariant-loop-index l = map target_at l.all.items ≡ outside_targets (map string_bytes l.ignores) 0 (take l.index l.outside)
