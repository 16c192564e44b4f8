use Rattle.site_check.proofs.Prelude.{◌≡◌, pointed, take}
use Rattle.site_check.proofs.worst.files_in.Given as goal
use Rattle.site_check.specs.Worst.{files_in}

abbrev pub invariant-loop-row : goal.invariant-loop-row
invariant-loop-row l = pointed l.files.items ≡ files_in (take l.row-index l.broken)
