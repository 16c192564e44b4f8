use Rattle.check_report.proofs.Prelude.{◌≡◌, ◌++◌, take}
use Rattle.check_report.specs.Junit.{unlisted_cases}
use Rattle.check_report.proofs.as_junit.put_unlisted_cases.Given as goal

abbrev pub invariant-loop-document : goal.invariant-loop-document
invariant-loop-document l = l.out.items ≡ l.fn.out.items ++ unlisted_cases (take l.document-index l.unlisted)
