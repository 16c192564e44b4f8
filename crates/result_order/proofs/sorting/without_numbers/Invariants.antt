use Rattle.result_order.proofs.Prelude.{◌≡◌, ◌++◌, reverse, vec_len, pages_of}
use Rattle.result_order.proofs.sorting.without_numbers.Given as goal

abbrev pub invariant-loop-page : goal.invariant-loop-page
invariant-loop-page l = pages_of l.fn.pages.items ≡ pages_of l.rest.items ++ reverse l.results.items

abbrev pub decreases-loop-page : goal.decreases-loop-page
decreases-loop-page l = vec_len l.rest
