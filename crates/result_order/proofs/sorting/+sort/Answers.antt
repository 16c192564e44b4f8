use Rattle.result_order.proofs.Prelude.{refl, subst, arith, rules, IsPermutation, slice_cmp, nat_list_cmp_total, nat_cmp, is_lt, answers_always, ranks_by, IsPermutation-map, IsPermutation-trans, Numbered, pages_of}
use Rattle.result_order.proofs.SortedParts.{prepared, prepared_front, prepared_back, alike_further, parted_in_order, parts_permuted}
use Rattle.result_order.proofs.sorting.+sort.Goals as goal

pub sort_from-returns-then-pages-lt-FEW-clause-same : goal.sort_from-returns-then-pages-lt-FEW-clause-same
sort_from-returns-then-pages-lt-FEW-clause-same g t c = IsPermutation-map (λ (p : Numbered). p.page) _ _ c.sort_unstable_by.ensures.permutation

pub sort_from-returns-then-pages-lt-FEW-clause-sorted : goal.sort_from-returns-then-pages-lt-FEW-clause-sorted
sort_from-returns-then-pages-lt-FEW-clause-sorted g t c =
    c.sort_unstable_by.ensures.sorted (λ (a b : Numbered). is_lt (slice_cmp nat_cmp a.page.url b.page.url)) (ranks_by nat_list_cmp_total (λ (p : Numbered). p.page.url))
    (answers_always _ _ _ (λ f a r g h. search rules))

pub sort_from-sort_runs-requires-after_bounds : goal.sort_from-sort_runs-requires-after_bounds
sort_from-sort_runs-requires-after_bounds g t c κs within =
    let numbered = c.number_all-from.new.pages in
    let all = c.number_all-from.ensures in
    prepared c.number_all-from.result _ c.args.pages.now numbered c.sort_by_number.new.pages all.alike (omega (arith, all.room, c.if-levels-eq0.false)) all.same
    all.numbered c.sort_by_number.ensures.same c.sort_by_number.ensures.rising

pub sort_from-returns-clause-same : goal.sort_from-returns-clause-same
sort_from-returns-clause-same g t c =
    let numbered = c.number_all-from.new.pages in
    let sorted = c.sort_by_number.new.pages in
    let moved = IsPermutation-map (λ (p : Numbered). p.page) numbered sorted c.sort_by_number.ensures.same in
    IsPermutation-trans _ _ _ (subst (λ ps. IsPermutation ps (pages_of sorted)) c.number_all-from.ensures.same moved) c.sort_runs.ensures.same

pub sort_runs-sort_from-requires-clause-alike : goal.sort_runs-sort_from-requires-clause-alike
sort_runs-sort_from-requires-clause-alike g t c κs within =
    alike_further c.args.from c.args.pages.now c.requires.alike c.requires.numbered (c.in-None.ensures.none refl)

pub sort_runs-sort_both-requires-clause-low : goal.sort_runs-sort_both-requires-clause-low
sort_runs-sort_both-requires-clause-low g t c κs within =
    prepared_front c.args.from c.args.levels c.in-Some.index c.args.pages.now _ c.requires c.split_at_mut-low.ensures.front

pub sort_runs-sort_both-requires-clause-high : goal.sort_runs-sort_both-requires-clause-high
sort_runs-sort_both-requires-clause-high g t c κs within =
    prepared_back c.args.from c.args.levels c.in-Some.index c.args.pages.now _ c.requires c.split_at_mut-low.ensures.back

pub sort_runs-returns-in-Some-clause-same : goal.sort_runs-returns-in-Some-clause-same
sort_runs-returns-in-Some-clause-same g t c = grind (arith, parts_permuted)

pub sort_runs-returns-in-Some-clause-sorted : goal.sort_runs-returns-in-Some-clause-sorted
sort_runs-returns-in-Some-clause-sorted g t c =
    let halves = c.split_at_mut-low.ensures in
    let both = c.sort_both.ensures in
    parted_in_order c.args.from c.args.levels c.in-Some.index c.args.pages.now _ _ c.requires c.in-Some.ensures.some
    (subst (λ xs. IsPermutation (pages_of xs) (pages_of c.sort_both.new.low)) halves.front both.low_same)
    (subst (λ xs. IsPermutation (pages_of xs) (pages_of c.sort_both.new.high)) halves.back both.high_same)
    both.low_sorted both.high_sorted
