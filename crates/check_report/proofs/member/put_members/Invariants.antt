use Rattle.check_report.proofs.Prelude.{◌≡◌, ◌++◌, flat_map, take}
use Rattle.check_report.specs.Objects.{member_tokens}
use Rattle.check_report.proofs.member.put_members.Given as goal

abbrev pub invariant-loop-member : goal.invariant-loop-member
invariant-loop-member l = record {
  tokens : l.out.tokens ≡ l.fn.out.tokens ++ flat_map member_tokens (take l.member-index l.members);
  before : l.out.before ≡ l.fn.out.before;
}
