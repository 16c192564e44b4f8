use Rattle.crawl_report.proofs.Prelude.{◌||◌, [], ◌∷◌, ◌++◌, take, sym, ap, ◌∙◌, take_more, bytes_eq, PageResult, has_result, any_push, set_put}
use Rattle.crawl_report.proofs.unseen.urls_of.Goals as goal

pub loop-one-preserved : goal.loop-one-preserved
loop-one-preserved c = λ url.
    let i = c.loop-one.one-index in
    let all = c.args.results.now in
    set_put c.loop-one.set c.insert.new.self c.hashed.result c.in_ok-insert.ensures.updates url
    ∙ ap (λ b. b || bytes_eq c.hashed.result url) (c.loop-one.invariant url)
    ∙ ap (λ t. has_result (take i all) url || bytes_eq t url) c.hashed.ensures
    ∙ sym (any_push (λ (r : PageResult). bytes_eq r.url url) (take i all) c.one-item.result)
    ∙ ap (λ rs. has_result rs url) (ap (λ x. take i all ++ x ∷ []) c.one-item.is ∙ sym (take_more all i c.one-item.result c.loop-one-test.true))
