use Rattle.check_report.proofs.Prelude.{◌≡◌, ◌++◌, length, IsUtf8, escaped}
use Rattle.check_report.proofs.escape.put_escaped.Given as goal

abbrev pub decreases-runs : goal.decreases-runs
decreases-runs l = length l.rest

-- what was put, and the escaped rest, is the whole
abbrev pub invariant-runs : goal.invariant-runs
invariant-runs l = record {
  utf8 : IsUtf8 l.rest;
  so_far : l.out.items ++ escaped l.how l.rest ≡ l.fn.out.items ++ escaped l.how l.text;
}
