use Rattle.session_log.proofs.Prelude.{◌≡◌, length, has_sync}
use Rattle.std.specs.Str.Lines.{lines}
use Rattle.session_log.proofs.log_file.has_sync.Given as goal

abbrev pub invariant-loop-line : goal.invariant-loop-line
invariant-loop-line l = has_sync (lines l.bytes) ≡ has_sync (lines l.rest)

abbrev pub decreases-loop-line : goal.decreases-loop-line
decreases-loop-line l = length l.rest
