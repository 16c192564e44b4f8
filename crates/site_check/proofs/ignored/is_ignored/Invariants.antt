use Rattle.site_check.proofs.Prelude.{◌≡◌, length, map, string_bytes, is_ignored}
use Rattle.site_check.proofs.ignored.is_ignored.Given as goal

abbrev pub invariant-entries : goal.invariant-entries
invariant-entries l = is_ignored (map string_bytes l.rest) l.text ≡ is_ignored (map string_bytes l.fn.entries) l.text

abbrev pub decreases-entries : goal.decreases-entries
decreases-entries l = length l.rest
