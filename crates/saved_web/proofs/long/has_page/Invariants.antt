use Rattle.saved_web.proofs.Prelude.{shadow, Utf8, ◌≡◌, length, list_any, lines, is_page}
use Rattle.saved_web.proofs.long.has_page.Given as goal

abbrev pub invariant-loop-line : goal.invariant-loop-line
invariant-loop-line l = shadow (Utf8 l.rest) × (list_any is_page (lines l.rest) ≡ list_any is_page (lines l.text))

abbrev pub decreases-loop-line : goal.decreases-loop-line
decreases-loop-line l = length l.rest
