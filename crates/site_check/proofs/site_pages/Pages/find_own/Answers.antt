use Rattle.site_check.proofs.Prelude.{ap, option_map, sym}
use Rattle.std.proofs.Common.{rules}
use Rattle.std.proofs.lemmas.Fn.{always_returns_same}
use Rattle.std.specs.Cmp.Lexicographic.{slice_cmp}
use Rattle.std.specs.Ordering.{nat_cmp}
use Rattle.document_links.specs.declared.anchors.PageAnchors.{PageAnchors}
use Rattle.site_check.proofs.DocumentsFound.{first_by, first_not, own_read}
use Rattle.site_check.specs.Documents.{at_url, found_of}
use Rattle.site_check.proofs.site_pages.Pages.find_own.Goals as goal

pub returns-in-Ok : goal.returns-in-Ok
returns-in-Ok c = λ order.
    let xs = c.args.self.now.anchors.now in
    let found = c.binary_search_by.ensures.position (λ (x : PageAnchors). slice_cmp nat_cmp x.url c.args.url.now) (always_returns_same _ _ _ (λ a r f' k. search rules)) in
    own_read xs c.args.url.now c.in-Ok.number (option_map found_of c.document.result)
    (first_by (λ (x : PageAnchors). x.url) xs c.args.url.now c.binary_search_by.result c.in-Ok.number order.own c.binary_search_by.ensures.bound found c.in-Ok.is) c.document.ensures

pub returns-in-Err : goal.returns-in-Err
returns-in-Err c = λ order.
    let found = c.binary_search_by.ensures.position (λ (x : PageAnchors). slice_cmp nat_cmp x.url c.args.url.now) (always_returns_same _ _ _ (λ a r f' k. search rules)) in
    sym (ap (option_map (at_url c.args.url.now)) (first_not (λ (x : PageAnchors). x.url) c.args.self.now.anchors.now c.args.url.now c.binary_search_by.result c.in-Err.field-0 order.own found c.in-Err.is))
