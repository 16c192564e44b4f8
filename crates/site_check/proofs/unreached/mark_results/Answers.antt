use Rattle.site_check.proofs.Prelude.{◌∙◌, ◌||◌, [], ◌∷◌, ◌++◌, ap, list_any, sym, take, take_more}
use Rattle.crawl_sources.proofs.Counts.{any_push}
use Rattle.site_check.proofs.Marks.{or_more}
use Rattle.site_check.proofs.unreached.mark_results.Goals as goal
use Rattle.site_check.specs.Unreached.{is_marked, is_page_of}

pub loop-one-preserved : goal.loop-one-preserved
loop-one-preserved c = λ index.
    let all = c.args.results.now in
    let i = c.loop-one.one-index in
    let one = c.one-item.result in
    let test = is_page_of c.args.files.now index in
    let first = is_marked c.args.marks.now index in
    c.mark_result.ensures index ∙ ap (λ b. b || test one) (c.loop-one.invariant index) ∙ or_more first (list_any test (take i all)) (test one)
    ∙ ap (λ b. first || b) (sym (any_push test (take i all) one) ∙ ap (list_any test) (ap (λ x. take i all ++ x ∷ []) c.one-item.is ∙ sym (take_more all i one c.loop-one-test.true)))
