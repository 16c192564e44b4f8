use Rattle.std.proofs.Common.{◌≡◌, ◌≤◌, false, length}
use Rattle.html_links.specs.Candidates.{Descriptors, read}
use Rattle.html_links.proofs.srcset.skip_descriptors.Given as goal

abbrev pub invariant-descriptors : goal.invariant-descriptors
invariant-descriptors l = (read (Descriptors l.hidden) l.rest ≡ read (Descriptors false) l.fn.bytes) × (length l.rest ≤ length l.fn.bytes)

abbrev pub decreases-descriptors : goal.decreases-descriptors
decreases-descriptors l = length l.rest
