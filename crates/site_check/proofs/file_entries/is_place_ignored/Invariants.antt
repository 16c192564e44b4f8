use Rattle.site_check.proofs.Prelude.{◌≡◌, length, map, string_bytes, is_place_ignored}
use Rattle.site_check.proofs.file_entries.is_place_ignored.Given as goal

abbrev pub invariant-entries : goal.invariant-entries
invariant-entries l = is_place_ignored (map string_bytes l.rest) l.target l.file ≡ is_place_ignored (map string_bytes l.fn.entries) l.target l.file

abbrev pub decreases-entries : goal.decreases-entries
decreases-entries l = length l.rest
