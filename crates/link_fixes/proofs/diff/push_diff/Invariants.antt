use Rattle.link_fixes.proofs.Prelude.{length}
use Rattle.link_fixes.proofs.diff.push_diff.Given as goal

abbrev pub decreases-lines : goal.decreases-lines
decreases-lines l = length l.old
