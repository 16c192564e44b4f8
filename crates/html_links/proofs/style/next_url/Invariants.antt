use Rattle.html_links.proofs.Prelude.{◌≡◌, ◌≤◌, false, length}
use Rattle.html_links.specs.Styles.{founds_of}
use Rattle.html_links.proofs.style.next_url.Given as goal

-- the URLs are those of what is left
abbrev pub invariant-places : goal.invariant-places
invariant-places l = (founds_of false l.fn.bytes ≡ founds_of l.imports l.rest) × (length l.rest ≤ length l.fn.bytes)

abbrev pub decreases-places : goal.decreases-places
decreases-places l = length l.rest
