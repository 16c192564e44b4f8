use Rattle.document_links.proofs.Prelude.{◌∙◌, ap, arith, subst, sym, take, ◌+◌}
use Rattle.document_links.proofs.Leading.{next_urls}
use Rattle.document_links.specs.LinkUrls.{AreUrlsOf, IsUrlOf}
use Rattle.document_links.specs.Written.{can_write, has_no_base}
use Rattle.document_links.proofs.link_urls.urls_of.Goals as goal

pub loop-index-preserved : goal.loop-index-preserved
loop-index-preserved c =
    let before = c.loop-index.invariant in
    let charset = c.args.writer.now.charset in
    let page = c.args.page.now in
    let all = c.args.raw.now.texts in
    let text = c.text.result.now in
    let url = c.in_ok-url.url in
    let i = c.loop-index.index in
    record {
      base = c.url_of.ensures.base ∙ before.base;
      charset = c.url_of.ensures.charset ∙ before.charset;
      links = λ none. c.in_ok-url.ensures.links;
      urls = λ no_base none.
          subst (AreUrlsOf charset page (take (i + 1) all)) (sym c.in_ok-push.ensures.items)
          (next_urls charset page all i text c.loop-index.urls.items url (omega arith) c.text.ensures (before.urls no_base none)
          (subst (λ x. IsUrlOf (can_write x text) page text url) before.charset (c.in_ok-url.ensures.url (ap has_no_base before.base ∙ no_base) (before.links none))));
    }
