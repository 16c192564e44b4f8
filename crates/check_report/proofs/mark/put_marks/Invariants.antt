use Rattle.check_report.proofs.Prelude.{◌≡◌, ◌++◌, flat_map, take}
use Rattle.check_report.specs.Objects.{mark_tokens}
use Rattle.check_report.proofs.mark.put_marks.Given as goal

abbrev pub invariant-loop-mark : goal.invariant-loop-mark
invariant-loop-mark l = record {
  tokens : l.out.tokens ≡ l.fn.out.tokens ++ flat_map mark_tokens (take l.mark-index l.marks);
  before : l.out.before ≡ l.fn.out.before;
}
