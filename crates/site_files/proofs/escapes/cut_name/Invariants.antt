use Rattle.std.proofs.Common.{◌≡◌, ℕ, ◌<◌, false, get_or}
use Rattle.site_files.specs.Below.{is_slash}
use Rattle.site_files.proofs.escapes.cut_name.Given as goal

abbrev pub invariant-bytes : goal.invariant-bytes
invariant-bytes l = (k : ℕ) → k < l.index → is_slash (get_or l.path k 0) ≡ false
