use Rattle.site_check.proofs.Prelude.{ℕ, List, ◌||◌, [], ◌∷◌, ◌++◌, take, sym, ap, ◌∙◌, take_more, bytes_eq, is_document}
use Rattle.crawl_sources.proofs.Counts.{any_push, set_put}
use Rattle.site_check.proofs.url_sets.document_urls.Goals as goal

pub loop-own-preserved : goal.loop-own-preserved
loop-own-preserved c = λ url.
    let i = c.loop-own.own-index in
    let all = c.args.documents.now in
    set_put c.loop-own.set c.insert.new.self c.hashed.result c.in_ok-insert.ensures.updates url
    ∙ ap (λ b. b || bytes_eq c.hashed.result url) (c.loop-own.invariant url)
    ∙ ap (λ t. is_document (take i all) url || bytes_eq t url) c.hashed.ensures
    ∙ sym (any_push (λ (own : List ℕ). bytes_eq own url) (take i all) c.own-item.result)
    ∙ ap (λ xs. is_document xs url) (ap (λ x. take i all ++ x ∷ []) c.own-item.is ∙ sym (take_more all i c.own-item.result c.loop-own-test.true))
