use Rattle.html_links.proofs.Prelude.{◌≡◌, ◌<◌, ◌-◌, ℕ, false, get_or, length, is_mark}
use Rattle.html_links.proofs.references.is_coded.Given as goal

-- there was no mark so far
abbrev pub invariant-marks : goal.invariant-marks
invariant-marks l = (k : ℕ) → k < l.at → is_mark (get_or l.value k 0) ≡ false

abbrev pub decreases-marks : goal.decreases-marks
decreases-marks l = length l.value - l.at
