use Rattle.std.proofs.Common.{◌≡◌, ◌++◌, drop}
use Rattle.crawl_session.specs.Sums.{kept}
use Rattle.crawl_session.proofs.sums.push_kept.Given as goal

abbrev pub invariant-loop-byte : goal.invariant-loop-byte
invariant-loop-byte l = l.out.items ++ kept l.at_start (drop l.byte-index l.bytes) ≡ l.initial.out.items ++ kept l.start l.bytes
