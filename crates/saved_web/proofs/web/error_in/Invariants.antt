use Rattle.saved_web.proofs.Prelude.{◌+◌, ◌≤◌, length, IsUtf8, lines, ReadTo}
use Rattle.saved_web.proofs.web.error_in.Given as goal

abbrev pub invariant-loop-line : goal.invariant-loop-line
invariant-loop-line l = record {
  few : l.number + length l.rest ≤ length l.bytes;
  read : ReadTo (lines l.bytes) (lines l.rest) l.number l.above l.pages;
  utf8 : IsUtf8 l.rest → IsUtf8 l.bytes;
}

abbrev pub decreases-loop-line : goal.decreases-loop-line
decreases-loop-line l = length l.rest
