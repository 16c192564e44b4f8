use Rattle.result_order.proofs.Prelude.{Vec, Global, sym, subst, ap, ◌∙◌, arith, IsPermutation, IsPermutation-trans, PageResult, pages_of}
use Rattle.std.proofs.lemmas.Result.{IfOk-weaker}
use Rattle.result_order.proofs.SortedParts.{pages_in_order, take_front}
use Rattle.result_order.proofs.sorting.in_order.Goals as goal

pub returns-clause-same : goal.returns-clause-same
returns-clause-same g c =
    IfOk-weaker c.without_numbers.result _ _ (λ (sorted : Vec PageResult Global) is.
    subst (IsPermutation c.args.results.items)
    (sym (is ∙ ap pages_of (take_front c.in_ok-pages.pages.len c.sort_from.new.pages _ (omega arith))))
    (IsPermutation-trans _ _ _ (subst (λ ps. IsPermutation c.args.results.items (pages_of ps)) (sym c.as_mut_slice.ensures.value) c.in_ok-pages.ensures) c.sort_from.ensures.same)) c.without_numbers.ensures

pub returns-clause-sorted : goal.returns-clause-sorted
returns-clause-sorted g c = grind (arith, take_front, pages_in_order)
