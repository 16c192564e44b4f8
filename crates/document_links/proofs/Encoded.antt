-- The links of a file whose encoding was found.
use Rattle.document_links.proofs.Prelude.{◌≡◌, ◌∙◌, ap, ℕ, true, false, List, Result, IfOk, is_utf8}
use Rattle.std.proofs.Common.{Ok, Err}
use Rattle.document_links.specs.declared.charset.Charset.{Charset}
use Rattle.document_links.specs.declared.charset.Charset.TheVariants.{Utf8}
use Rattle.document_links.specs.declared.document.Document as read
use Rattle.document_links.specs.declared.document.ReadOptions.{ReadOptions}
use Rattle.document_links.specs.declared.text_kind.TextKind.{TextKind}
use Rattle.document_links.specs.declared.text_kind.TextKind.TheVariants.{Document}
use Rattle.document_links.specs.Encoding.{HasFile, HasFileLinks, charset_of, has_mark, is_in_unicode, is_known, names_encoding}

pub file_in : {E : Type 0} (kind : TextKind) (options : ReadOptions) (charset : Charset) (file : List ℕ) (r : Result read.Document E) →
    charset ≡ charset_of kind file → (has_mark file ≡ true → charset ≡ Utf8) → (names_encoding kind file ≡ false → charset ≡ Utf8) → (is_in_unicode kind ≡ true → is_known charset ≡ true) → (is_utf8 file ≡ true → is_known charset ≡ true) →
    IfOk r (λ document. HasFileLinks kind options charset file document.links) → IfOk r (λ document. HasFile kind options file document.links)
file_in kind options charset file (Ok document) defined marked unnamed known valid has = record { charset = charset; defined = defined; marked = marked; unnamed = unnamed; known = known; valid = valid; has = has }
file_in kind options charset file (Err e) defined marked unnamed known valid has = tt

-- the encoding of a document, by the kind of its options
pub of_kind : (options : ReadOptions) (kind : TextKind) (charset : Charset) (body : List ℕ) → charset ≡ charset_of kind body → kind ≡ Document options.syntax options.styles → charset ≡ charset_of (Document options.syntax options.styles) body
of_kind options kind charset body defined is = defined ∙ ap (λ k. charset_of k body) is
