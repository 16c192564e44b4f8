use Rattle.saved_web.proofs.Prelude.{shadow, Utf8, ◌+◌, ◌≤◌, ℕ, List, [], length, lines, FoundTo}
use Rattle.saved_web.proofs.reader.pages_after.Given as goal

abbrev pub invariant-loop-line : goal.invariant-loop-line
invariant-loop-line l = record {
  text : shadow (Utf8 l.rest);
  few : l.number + length l.rest ≤ l.before + length l.text;
  read : (all : List (List ℕ)) → FoundTo all (lines l.text) l.before l.fn.above [] → FoundTo all (lines l.rest) l.number l.above l.pages;
}

abbrev pub decreases-loop-line : goal.decreases-loop-line
decreases-loop-line l = length l.rest
