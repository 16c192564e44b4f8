use Rattle.html_links.proofs.Prelude.{◌≡◌, ◌≤◌, length}
use Rattle.html_links.specs.Styles.{after_run}
use Rattle.html_links.proofs.style.after_run.Given as goal

-- what is left continues the run
abbrev pub invariant-bytes : goal.invariant-bytes
invariant-bytes l = (after_run l.run l.at l.rest ≡ after_run l.fn.run l.fn.state l.fn.bytes) × (length l.rest ≤ length l.fn.bytes)

abbrev pub decreases-bytes : goal.decreases-bytes
decreases-bytes l = length l.rest
