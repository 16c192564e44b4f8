use Rattle.site_check.proofs.Prelude.{◌≡◌, map, take, string_bytes, pointed, unused}
use Rattle.site_check.proofs.ignored.unused.Given as goal

abbrev pub invariant-loop-entry : goal.invariant-loop-entry
invariant-loop-entry l = map string_bytes l.all.items ≡ unused (map string_bytes (take l.entry-index l.entries)) (pointed l.texts) l.rows
