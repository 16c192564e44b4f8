use Rattle.result_order.proofs.Prelude.{rules, ◌≡◌, reverse, sym, subst, IsPermutation, IsPermutation-sym, IsPermutation-reverse, pages_of}
use Rattle.result_order.proofs.sorting.with_numbers.Goals as goal

pub returns : goal.returns
returns c =
    let pages = pages_of c.loop-page.pages.items in
    let turned : c.args.results.items ≡ reverse pages = search rules in
    subst (λ all. IsPermutation all pages) (sym turned) (IsPermutation-sym _ _ (IsPermutation-reverse pages))
