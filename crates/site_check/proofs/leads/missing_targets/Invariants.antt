use Rattle.site_check.proofs.Prelude.{◌≡◌, map, take, string_bytes, result_at, missing_from, target_at}
use Rattle.site_check.proofs.leads.missing_targets.Given as goal

abbrev pub invariant-loop-number : goal.invariant-loop-number
invariant-loop-number l = map target_at l.all.items ≡ missing_from l.front (map string_bytes l.ignores) 0 (map result_at (take l.number l.linked))
