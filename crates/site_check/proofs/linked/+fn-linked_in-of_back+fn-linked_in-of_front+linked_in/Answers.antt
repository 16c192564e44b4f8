use Rattle.site_check.proofs.Prelude.{◌≡◌, ◌∙◌, ◌+◌, ◌<◌, ◌^◌, List, IfOk, length, map, ap, sym, subst, arith, length-append, IfOk-at_ok, PageResult, pointed, linked, linked_at}
use Rattle.site_check.proofs.linked.+fn-linked_in-of_back+fn-linked_in-of_front+linked_in.Goals as goal

pub returns : goal.returns
returns g t c = λ fits.
    let those = pointed c.args.unfound.now in
    let front : List PageResult = c.halves.result.0.now in
    let back : List PageResult = c.halves.result.1.now in
    let whole = c.halves.ensures in
    let sum : length c.args.results.now ≡ length front + length back = ap length whole ∙ length-append front back in
    let fits_both : length front + length back < 2 ^ 64 = omega (arith, fits, sum) in
    let fits_front : length front < 2 ^ 64 = omega (arith, fits, sum) in
    let fits_back : length back < 2 ^ 64 = omega (arith, fits, sum) in
    let first = IfOk-at_ok (λ v. map linked_at v.items ≡ map (linked front) those) c.in_ok-first.was (c.join-first.ensures.first fits_front) in
    let second = IfOk-at_ok (λ v. map linked_at v.items ≡ map (linked back) those) c.in_ok-second.was (c.join-first.ensures.second fits_back) in
    let both = c.sums.ensures front back fits_both (ap (map linked_at) c.as_slice.ensures.value ∙ first) (ap (map linked_at) c.as_slice-2.ensures.value ∙ second) in
    let P : List PageResult → Type 0 = λ rs. IfOk c.sums.result (λ all. map linked_at all.items ≡ map (linked rs) those) in
    subst P (sym whole) both
