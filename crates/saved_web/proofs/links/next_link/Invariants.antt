use Rattle.saved_web.proofs.Prelude.{shadow, Utf8, ◌≡◌, ◌≤◌, length, lines, link_texts}
use Rattle.saved_web.proofs.links.next_link.Given as goal

abbrev pub invariant-loop-line : goal.invariant-loop-line
invariant-loop-line l = record {
  text : shadow (Utf8 l.rest);
  same : link_texts (lines l.rest) ≡ link_texts (lines l.following);
  within : length l.rest ≤ length l.following;
}

abbrev pub decreases-loop-line : goal.decreases-loop-line
decreases-loop-line l = length l.rest
