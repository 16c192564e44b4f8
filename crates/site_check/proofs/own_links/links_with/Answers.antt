use Rattle.site_check.proofs.Prelude.{◌∙◌, IfOk-weaker, subst}
use Rattle.document_links.specs.LinkUrls.{AreFileLinks}
use Rattle.document_links.specs.declared.link_urls.FileLinks.{FileLinks}
use Rattle.site_check.proofs.own_links.links_with.Goals as goal

pub returns : goal.returns
returns c =
    let page = c.args.page in
    IfOk-weaker c.indexed_links.result _ _ (λ (links : FileLinks) own. subst (λ l. AreFileLinks page.root page.url.now c.args.kind c.args.body.now l links.places.items links.urls.items) (c.as_slice.ensures.value ∙ c.in_ok-indices.ensures) own) c.indexed_links.ensures
