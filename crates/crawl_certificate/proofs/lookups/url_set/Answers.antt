use Rattle.crawl_certificate.proofs.Prelude.{◌||◌, [], ◌∷◌, ◌++◌, take, sym, ap, ◌∙◌, take_more, bytes_eq, contains_url}
use Rattle.crawl_certificate.proofs.Places.{any_push, set_put}
use Rattle.crawl_certificate.proofs.lookups.url_set.Goals as goal

pub loop-url-preserved : goal.loop-url-preserved
loop-url-preserved c = λ url.
    let i = c.loop-url.url-index in
    set_put c.loop-url.set c.insert.new.self c.hashed.result c.in_ok-insert.ensures.updates url
    ∙ ap (λ b. b || bytes_eq c.hashed.result url) (c.loop-url.invariant url)
    ∙ ap (λ t. contains_url (take i c.args.urls.now) url || bytes_eq t url) c.hashed.ensures
    ∙ sym (any_push (λ own. bytes_eq own url) (take i c.args.urls.now) c.url-item.result)
    ∙ ap (λ us. contains_url us url) (ap (λ x. take i c.args.urls.now ++ x ∷ []) c.url-item.is ∙ sym (take_more c.args.urls.now i c.url-item.result c.loop-url-test.true))
