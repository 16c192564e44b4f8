use Rattle.std.proofs.Common.{◌≡◌, length}
use Rattle.crawl_session.specs.Sums.{checked_after, ended_lines, wrong_after}
use Rattle.crawl_session.proofs.sums.SumCheck.check.Given as goal

abbrev pub invariant-loop-line : goal.invariant-loop-line
invariant-loop-line l = (wrong_after l.initial.self (ended_lines l.bytes) ≡ wrong_after l.self (ended_lines l.rest)) × (checked_after l.initial.self (ended_lines l.bytes) ≡ checked_after l.self (ended_lines l.rest))

abbrev pub decreases-loop-line : goal.decreases-loop-line
decreases-loop-line l = length l.rest
