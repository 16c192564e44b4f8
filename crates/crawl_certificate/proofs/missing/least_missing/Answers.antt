use Rattle.crawl_certificate.proofs.Prelude.{ap, ◌∙◌, allows, is_lost, url_of, url_if}
use Rattle.crawl_certificate.proofs.LeastUrls.{text_more}
use Rattle.crawl_certificate.proofs.missing.least_missing.Goals as goal

pub loop-url-preserved : goal.loop-url-preserved
loop-url-preserved c =
    let x = c.url-item.result in
    text_more (is_lost (allows c.args.filter.now) c.args.accepted.now) c.args.urls.now c.loop-url.url-index x (url_of c.loop-url.least) (url_of c.culprit_if-one.result) (url_of c.lesser-least.result)
    c.loop-url-test.true c.url-item.is (c.culprit_if-one.ensures ∙ ap (λ b. url_if b x) c.is_missing.ensures) c.lesser-least.ensures c.loop-url.invariant
