use Rattle.site_check.proofs.Prelude.{◌≡◌, ◌∙◌, Some, ap, option_map, slice_get, sym}
use Rattle.document_links.specs.declared.anchors.Target.{Target}
use Rattle.site_check.proofs.DocumentsFound.{numbered}
use Rattle.site_check.proofs.Placed.{item_at}
use Rattle.site_check.specs.Documents.{document_of, found_of}
use Rattle.site_check.proofs.site_pages.Pages.find_target.Goals as goal

pub returns-in-Some-Some : goal.returns-in-Some-Some
returns-in-Some-Some c = λ s.
    let pages = c.args.self.now in
    let read : slice_get pages.documents.now c.in-Page.number ≡ Some (Some c.in-Some-Some.document) =
    sym (item_at pages.documents.now c.in-Page.number c.get.result c.get.ensures.lookup) ∙ ap (option_map (λ x. x.now)) c.in-Some-Some.is ∙ ap (λ x. Some x) c.in-Some-Some.field-0-is in
    numbered pages.anchors.now pages.aliases.now c.args.files.now pages.results.now c.in-Page.number c.in-Some-Some.document (option_map found_of c.document.result) s.order (s.numbers.each c.in-Page.number c.in-Some-Some.document read) c.document.ensures
    ∙ ap (λ (t : Target). document_of pages.anchors.now pages.aliases.now c.args.files.now pages.results.now t) (sym c.in-Page.is)
