use Rattle.std.proofs.Common.{◌≡◌, length}
use Rattle.html_links.specs.declared.cdata.State.TheVariants.{Name}
use Rattle.html_links.specs.Cdata.{run}
use Rattle.html_links.proofs.cdata.after_cdata.Given as goal

-- it ends where the rest of it ends
abbrev pub invariant-bytes : goal.invariant-bytes
invariant-bytes l = run l.state l.rest ≡ run (Name 0) l.fn.bytes

abbrev pub decreases-bytes : goal.decreases-bytes
decreases-bytes l = length l.rest
