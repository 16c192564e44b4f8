use Rattle.std.proofs.Common.{◌≡◌, ◌%◌, ◌^◌, take}
use Rattle.crawl_keys.specs.Assignment.{weighted_sum}
use Rattle.crawl_keys.proofs.assignment.hash.Given as goal

-- the hash so far is that of the bytes so far
abbrev pub invariant-loop-byte : goal.invariant-loop-byte
invariant-loop-byte l = l.hash ≡ weighted_sum (take l.byte-index l.byte-items) % 2 ^ 32
