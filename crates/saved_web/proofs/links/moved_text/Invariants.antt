use Rattle.saved_web.proofs.Prelude.{shadow, Utf8, ◌≡◌, length, lines, moved_text}
use Rattle.saved_web.proofs.links.moved_text.Given as goal

abbrev pub invariant-loop-line : goal.invariant-loop-line
invariant-loop-line l = shadow (Utf8 l.rest) × (moved_text (lines l.rest) ≡ moved_text (lines l.following))

abbrev pub decreases-loop-line : goal.decreases-loop-line
decreases-loop-line l = length l.rest
