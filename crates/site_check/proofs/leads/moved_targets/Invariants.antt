use Rattle.site_check.proofs.Prelude.{◌≡◌, map, take, flat_map, result_at, moved_target, number_at, target_at}
use Rattle.site_check.proofs.leads.moved_targets.Given as goal

abbrev pub invariant-loop-one : goal.invariant-loop-one
invariant-loop-one l = map target_at l.all.items ≡ flat_map (moved_target (number_at l.numbers)) (map result_at (take l.one-index l.linked))
