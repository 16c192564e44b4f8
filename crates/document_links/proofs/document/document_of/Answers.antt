use Rattle.document_links.proofs.Prelude.{subst}
use Rattle.std.specs.Prelude.{IsSomeAnd}
use Rattle.document_links.specs.declared.charset.Charset.{Charset}
use Rattle.document_links.specs.declared.page_base.PageBase.{PageBase}
use Rattle.document_links.specs.Keeping.{AreKept}
use Rattle.document_links.proofs.document.document_of.Goals as goal

pub returns-clause-anchors : goal.returns-clause-anchors
returns-clause-anchors c = λ known asked.
    subst (λ (x : PageBase × Charset). IsSomeAnd c.in_ok-anchors.anchors (AreKept x.0 x.1 c.args.url.now c.args.ids.now.ids c.args.raw.now.texts)) (λ i. (c.written-document.ensures.base i, c.written-document.ensures.charset i)) (c.in_ok-anchors.ensures known)
