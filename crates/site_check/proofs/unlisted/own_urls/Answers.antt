use Rattle.site_check.proofs.Prelude.{◌||◌, [], ◌∷◌, ◌++◌, take, sym, ap, ◌∙◌, list_any, take_more, is_in, is_other_of}
use Rattle.crawl_sources.proofs.Counts.{any_push}
use Rattle.site_check.proofs.unlisted.own_urls.Goals as goal

pub loop-alias-preserved : goal.loop-alias-preserved
loop-alias-preserved c = λ own.
    let i = c.loop-alias.alias-index in
    let all = c.args.aliases.now in
    let test = is_other_of (is_in c.args.listed.now) own in
    c.in_ok-add_own.ensures own ∙ ap (λ b. b || test c.alias-item.result) (c.loop-alias.invariant own)
    ∙ sym (any_push test (take i all) c.alias-item.result)
    ∙ ap (list_any test) (ap (λ x. take i all ++ x ∷ []) c.alias-item.is ∙ sym (take_more all i c.alias-item.result c.loop-alias-test.true))
