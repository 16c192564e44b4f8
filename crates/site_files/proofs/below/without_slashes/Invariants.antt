use Rattle.std.proofs.Common.{◌≡◌, length}
use Rattle.site_files.specs.Below.{without_slashes}
use Rattle.site_files.proofs.below.without_slashes.Given as goal

abbrev pub decreases-slashes : goal.decreases-slashes
decreases-slashes l = length l.rest

abbrev pub invariant-slashes : goal.invariant-slashes
invariant-slashes l = without_slashes l.rest ≡ without_slashes l.text
