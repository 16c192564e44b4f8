use Rattle.site_check.proofs.Prelude.{◌≡◌, ◌∙◌, ◌+◌, ◌<◌, ◌^◌, ◌++◌, Some, refl, slice_get, ap, arith, common_steps, slice_get-map, slice_get_read, Bor, option_map, pointed, PageResult, linked, linked_at}
use Rattle.site_check.proofs.Counting.{linked_more, sources_fit, with_pages}
use Rattle.site_check.proofs.linked.sums.Goals as goal

pub loop-index-preserved : goal.loop-index-preserved
loop-index-preserved c = λ front back fits first second.
    let those = pointed c.args.unfound.now in
    let one = c.index-unfound-index.result in
    let there : slice_get those c.loop-index.index ≡ Some one.now =
    slice_get-map (λ (x : Bor PageResult). x.now) c.args.unfound.now c.loop-index.index
    ∙ ap (option_map (λ (x : Bor PageResult). x.now)) (slice_get_read c.args.unfound.now _ c.loop-index.index one refl c.loop-index-test.true c.index-unfound-index.is) in
    let low = c.pages_at-low.ensures front those first one.now there in
    let high = c.pages_at-high.ensures back those second one.now there in
    let fit : c.pages_at-low.result + c.pages_at-high.result < 2 ^ 64 = omega (arith, low, high, sources_fit front back one.now.url fits) in
    let here : linked_at c.with_sum.result ≡ linked (front ++ back) one.now =
    c.with_sum.ensures fit ∙ (λ i. with_pages one.now (low i + high i)) ∙ linked_more front back one.now in
    let before = c.loop-index.invariant front back fits first second in
    grind (arith, common_steps)
