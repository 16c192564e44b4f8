use Rattle.document_links.proofs.Prelude.{◌≡◌, ◌∙◌, ℕ, true, false, List, Option, Result, IfOk, sym, subst, IsTextIn, text_in}
use Rattle.std.proofs.Common.{Ok, Err, IsAscii}
use Rattle.std.specs.Borrow.{Bor}
use Rattle.std.specs.Prelude.{IfSome}
use Rattle.document_links.specs.declared.charset.Charset.{Charset}
use Rattle.document_links.specs.declared.charset.Charset.TheVariants.{Utf8}
use Rattle.document_links.specs.declared.link_urls.FileLinks.{FileLinks}
use Rattle.document_links.specs.declared.text_kind.TextKind.{TextKind}
use Rattle.document_links.specs.Encoding.{charset_of, has_mark, is_in_unicode, is_known, names_encoding}
use Rattle.document_links.specs.LinkUrls.{AreFileLinks, AreUrlsIn}
use Rattle.document_links.specs.Places.{ArePlacesIn}
use Rattle.document_links.proofs.link_urls.indexed_links.Goals as goal

of_text : {E : Type 0} (root : Option (Bor (List ℕ))) (page : List ℕ) (kind : TextKind) (charset : Charset) (file indices text : List ℕ) (r : Result FileLinks E) → charset ≡ charset_of kind file →
    (has_mark file ≡ true → charset ≡ Utf8) → (names_encoding kind file ≡ false → charset ≡ Utf8) → (is_in_unicode kind ≡ true → is_known charset ≡ true) →
    IsTextIn charset file text → (IsAscii file → text ≡ file) → IfOk r (λ links. ArePlacesIn kind charset text indices links.places.items) → IfOk r (λ links. AreUrlsIn root page kind charset text indices links.urls.items) →
    IfOk r (λ links. AreFileLinks root page kind file indices links.places.items links.urls.items)
of_text root page kind charset file indices text (Ok links) defined marked unnamed known decoded ascii located lead =
    record { charset = charset; defined = defined; marked = marked; unnamed = unnamed; known = known; text = text; decoded = decoded; ascii = ascii; located = located; lead = lead }
of_text root page kind charset file indices text (Err e) defined marked unnamed known decoded ascii located lead = tt

pub returns-in-None : goal.returns-in-None
returns-in-None c =
    let body = c.args.body.now in
    let page = c.args.page in
    let charset = c.charset_of-charset.result in
    let decoded = subst (λ new. IsTextIn charset body (text_in body new)) c.in-None.is c.in_ok-text.ensures.text in
    of_text page.root page.url.now c.args.kind charset body c.args.indices.now c.without_mark.result.now c.links_in-in-None.result
    c.charset_of-charset.ensures.value c.charset_of-charset.ensures.marked c.charset_of-charset.ensures.unnamed c.charset_of-charset.ensures.known
    (subst (IsTextIn charset body) (sym c.without_mark.ensures.mark) decoded) c.without_mark.ensures.ascii c.links_in-in-None.ensures.located c.links_in-in-None.ensures.lead

pub returns-in-Some : goal.returns-in-Some
returns-in-Some c =
    let body = c.args.body.now in
    let page = c.args.page in
    let charset = c.charset_of-charset.result in
    let same = c.as_slice.ensures.value in
    let decoded = subst (λ new. IsTextIn charset body (text_in body new)) c.in-Some.is c.in_ok-text.ensures.text in
    of_text page.root page.url.now c.args.kind charset body c.args.indices.now c.as_slice.result.now c.links_in.result
    c.charset_of-charset.ensures.value c.charset_of-charset.ensures.marked c.charset_of-charset.ensures.unnamed c.charset_of-charset.ensures.known
    (subst (IsTextIn charset body) (sym same) decoded)
    (λ is. same ∙ subst (λ new. IfSome new (λ text. text.items ≡ body)) c.in-Some.is (c.in_ok-text.ensures.ascii is (c.charset_of-charset.ensures.ascii is))) c.links_in.ensures.located c.links_in.ensures.lead
