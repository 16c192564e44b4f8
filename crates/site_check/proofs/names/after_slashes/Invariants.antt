use Rattle.site_check.proofs.Prelude.{◌≡◌, length, after_slashes}
use Rattle.site_check.proofs.Namesakes.{name_on}
use Rattle.site_check.proofs.names.after_slashes.Given as goal

abbrev pub invariant-bytes : goal.invariant-bytes
invariant-bytes l = name_on l.name l.rest ≡ after_slashes l.fn.path

abbrev pub decreases-bytes : goal.decreases-bytes
decreases-bytes l = length l.rest
