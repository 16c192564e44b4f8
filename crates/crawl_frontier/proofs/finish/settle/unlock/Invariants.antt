use Rattle.std.proofs.Common.{◌≡◌, ◌+◌, vec_len}
use Rattle.crawl_frontier.proofs.finish.settle.unlock.Given as goal

abbrev pub invariant-loop-lock : goal.invariant-loop-lock
invariant-loop-lock g l = vec_len l.shards + vec_len l.locks ≡ vec_len l.fn.locks

abbrev pub decreases-loop-lock : goal.decreases-loop-lock
decreases-loop-lock g l = vec_len l.locks
