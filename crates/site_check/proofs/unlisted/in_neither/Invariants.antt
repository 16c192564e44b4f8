use Rattle.site_check.proofs.Prelude.{◌≡◌, filter, map, string_bytes, take, is_in, is_missed, shown}
use Rattle.site_check.proofs.unlisted.in_neither.Given as goal

abbrev pub invariant-loop-own : goal.invariant-loop-own
invariant-loop-own l = map string_bytes l.all.items ≡ map (shown l.front) (filter (is_missed (is_in l.listed) (is_in l.owns)) (take l.own-index l.documents))
