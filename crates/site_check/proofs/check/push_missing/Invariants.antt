use Rattle.site_check.proofs.Prelude.{◌≡◌, ◌++◌, map, take, flat_map, pointed, result_at, text_at}
use Rattle.site_check.proofs.check.push_missing.Given as goal

abbrev pub invariant-loop-one : goal.invariant-loop-one
invariant-loop-one l = pointed l.texts.items ≡ pointed l.initial.texts.items ++ flat_map (text_at l.front) (map result_at (take l.one-index l.linked))
