use Rattle.result_order.proofs.Prelude.{◌≡◌, ◌++◌, reverse, vec_len, pages_of}
use Rattle.result_order.proofs.sorting.with_numbers.Given as goal

abbrev pub invariant-loop-page : goal.invariant-loop-page
invariant-loop-page l = l.fn.results.items ≡ l.rest.items ++ reverse (pages_of l.pages.items)

abbrev pub decreases-loop-page : goal.decreases-loop-page
decreases-loop-page l = vec_len l.rest
