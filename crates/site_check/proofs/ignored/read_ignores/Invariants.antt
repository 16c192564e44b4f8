use Rattle.site_check.proofs.Prelude.{◌≡◌, ◌++◌, length, map, string_bytes, flat_map, entries_in, entry_in}
use Rattle.std.specs.Str.Lines.{lines}
use Rattle.site_check.proofs.ignored.read_ignores.Given as goal

abbrev pub invariant-lines : goal.invariant-lines
invariant-lines l = map string_bytes l.entries.items ++ flat_map entry_in (lines l.rest) ≡ entries_in l.bytes

abbrev pub decreases-lines : goal.decreases-lines
decreases-lines l = length l.rest
