use Rattle.check_report.proofs.Prelude.{◌≡◌, ◌++◌, length, IsUtf8}
use Rattle.check_report.specs.Junit.{xml}
use Rattle.check_report.proofs.xml.put_xml.Given as goal

abbrev pub decreases-chars : goal.decreases-chars
decreases-chars l = length l.rest

-- what was put, and the escaped rest, is the whole
abbrev pub invariant-chars : goal.invariant-chars
invariant-chars l = record {
  utf8 : IsUtf8 l.rest;
  so_far : l.out.items ++ xml l.rest ≡ l.fn.out.items ++ xml l.text;
}
