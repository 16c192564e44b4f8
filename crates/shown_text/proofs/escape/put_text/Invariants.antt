use Rattle.shown_text.proofs.Prelude.{◌≡◌, ◌++◌, length, IsUtf8, shown_in}
use Rattle.shown_text.proofs.escape.put_text.Given as goal

abbrev pub decreases-runs : goal.decreases-runs
decreases-runs l = length l.rest

-- the bytes written so far and the shown rest are the whole output
abbrev pub invariant-runs : goal.invariant-runs
invariant-runs l = record {
  utf8 : IsUtf8 l.rest;
  so_far : l.out.items ++ shown_in l.how l.rest ≡ l.fn.out.items ++ shown_in l.how l.text;
}
