use Rattle.site_check.proofs.Prelude.{◌≡◌, false, take, list_any, matches_row}
use Rattle.site_check.proofs.file_entries.is_used_in.Given as goal

abbrev pub invariant-loop-row : goal.invariant-loop-row
invariant-loop-row l = list_any (matches_row l.pattern l.rest) (take l.row-index l.rows) ≡ false
