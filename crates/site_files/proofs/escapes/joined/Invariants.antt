use Rattle.std.proofs.Common.{◌≡◌, ◌++◌, length}
use Rattle.std.specs.List.{join_with_byte}
use Rattle.site_files.specs.Names.{shown}
use Rattle.site_files.proofs.Ways.{slashed}
use Rattle.site_files.proofs.escapes.joined.Given as goal

abbrev pub decreases-names : goal.decreases-names
decreases-names l = length l.rest

abbrev pub invariant-names : goal.invariant-names
invariant-names l = l.path.items ++ slashed (shown l.rest) ≡ join_with_byte 47 (shown l.names)
