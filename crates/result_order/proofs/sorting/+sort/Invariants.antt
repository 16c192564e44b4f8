use Rattle.std.proofs.Common.{◌+◌, ◌*◌, ◌^◌, length}
use Rattle.result_order.proofs.sorting.+sort.Given as goal

abbrev pub decreases-sort_from : goal.decreases-sort_from
decreases-sort_from g l = l.levels * 2 ^ 70

abbrev pub decreases-sort_runs : goal.decreases-sort_runs
decreases-sort_runs g l = l.levels * 2 ^ 70 + 4 * length l.pages.now + 3

abbrev pub decreases-sort_both : goal.decreases-sort_both
decreases-sort_both g l = l.levels * 2 ^ 70 + 4 * (length l.low.now + length l.high.now) + 2

abbrev pub decreases-sort_both-first : goal.decreases-sort_both-first
decreases-sort_both-first g l = l.levels * 2 ^ 70 + 4 * length l.low.now + 4

abbrev pub decreases-sort_both-second : goal.decreases-sort_both-second
decreases-sort_both-second g l = l.levels * 2 ^ 70 + 4 * length l.high.now + 4
