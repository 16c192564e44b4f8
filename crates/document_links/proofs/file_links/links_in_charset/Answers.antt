use Rattle.document_links.proofs.Prelude.{◌≡◌, ◌∙◌, ℕ, List, Result, IfOk, sym, subst, HasFileLinks, HasFileTexts, IsTextIn, text_in}
use Rattle.std.proofs.Common.{Ok, Err, IsAscii}
use Rattle.std.specs.Prelude.{IfSome}
use Rattle.document_links.specs.declared.charset.Charset.{Charset}
use Rattle.document_links.specs.declared.document.Document.{Document}
use Rattle.document_links.specs.declared.document.ReadOptions.{ReadOptions}
use Rattle.document_links.specs.declared.text_kind.TextKind.{TextKind}
use Rattle.document_links.proofs.file_links.links_in_charset.Goals as goal

of_text : {E : Type 0} (kind : TextKind) (options : ReadOptions) (charset : Charset) (body text : List ℕ) (r : Result Document E) → IsTextIn charset body text → (IsAscii body → text ≡ body) → IfOk r (λ file. HasFileTexts kind options charset text file.links) → IfOk r (λ file. HasFileLinks kind options charset body file.links)
of_text kind options charset body text (Ok file) decoded ascii texts = record { text = text; decoded = decoded; ascii = ascii; texts = texts }
of_text kind options charset body text (Err e) decoded ascii texts = tt

pub returns-in-None : goal.returns-in-None
returns-in-None c =
    let body = c.args.body.now in
    let reading = c.args.reading in
    let decoded = subst (λ new. IsTextIn reading.charset body (text_in body new)) c.in-None.is c.in_ok-text.ensures.text in
    of_text reading.kind c.args.options reading.charset body c.without_mark.result.now c.links_in_text-in-None.result
    (subst (IsTextIn reading.charset body) (sym c.without_mark.ensures.mark) decoded) c.without_mark.ensures.ascii c.links_in_text-in-None.ensures

pub returns-in-Some : goal.returns-in-Some
returns-in-Some c =
    let body = c.args.body.now in
    let reading = c.args.reading in
    let same = c.as_slice.ensures.value in
    let decoded = subst (λ new. IsTextIn reading.charset body (text_in body new)) c.in-Some.is c.in_ok-text.ensures.text in
    of_text reading.kind c.args.options reading.charset body c.as_slice.result.now c.links_in_text.result (subst (IsTextIn reading.charset body) (sym same) decoded)
    (λ is. same ∙ subst (λ new. IfSome new (λ text. text.items ≡ body)) c.in-Some.is (c.in_ok-text.ensures.ascii is (c.requires is))) c.links_in_text.ensures
