use Rattle.document_links.proofs.Prelude.{◌≡◌, ◌∙◌, ℕ, List, Result, IfOk, sym, subst, IsTextIn, text_in, HasTexts}
use Rattle.std.proofs.Common.{Ok, Err, IsAscii}
use Rattle.std.specs.Prelude.{IfSome}
use Rattle.document_links.specs.declared.charset.Charset.{Charset}
use Rattle.document_links.specs.declared.document.Document.{Document}
use Rattle.document_links.specs.declared.document.ReadOptions.{ReadOptions}
use Rattle.document_links.specs.KeptAnchors.{HasAnchors, IsReadIn}
use Rattle.document_links.proofs.document.document_in.Goals as goal

of_text : {E : Type 0} (options : ReadOptions) (charset : Charset) (page body text : List ℕ) (r : Result Document E) → IsTextIn charset body text → (IsAscii body → text ≡ body) → IfOk r (λ document. HasTexts options charset text document.links)
    → IfOk r (λ document. HasAnchors options charset page text document.anchors) → IfOk r (λ document. IsReadIn options charset page body document.links document.anchors)
of_text options charset page body text (Ok document) decoded ascii texts anchors = record { has = record { text = text; decoded = decoded; ascii = ascii; texts = texts }; kept = anchors }
of_text options charset page body text (Err e) decoded ascii texts anchors = tt

pub returns-in-None : goal.returns-in-None
returns-in-None c =
    let body = c.args.body.now in
    let decoded = subst (λ new. IsTextIn c.args.charset body (text_in body new)) c.in-None.is c.in_ok-text.ensures.text in
    of_text c.args.options c.args.charset c.args.url.now body c.without_mark.result.now c.text_document-in-None.result
    (subst (IsTextIn c.args.charset body) (sym c.without_mark.ensures.mark) decoded) c.without_mark.ensures.ascii c.text_document-in-None.ensures.links c.text_document-in-None.ensures.anchors

pub returns-in-Some : goal.returns-in-Some
returns-in-Some c =
    let body = c.args.body.now in
    let charset = c.args.charset in
    let same = c.as_slice.ensures.value in
    let decoded = subst (λ new. IsTextIn charset body (text_in body new)) c.in-Some.is c.in_ok-text.ensures.text in
    of_text c.args.options charset c.args.url.now body c.as_slice.result.now c.text_document.result (subst (IsTextIn charset body) (sym same) decoded)
    (λ is. same ∙ subst (λ new. IfSome new (λ text. text.items ≡ body)) c.in-Some.is (c.in_ok-text.ensures.ascii is (c.requires is))) c.text_document.ensures.links c.text_document.ensures.anchors
