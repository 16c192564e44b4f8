use Rattle.site_check.proofs.Prelude.{option_map, sym}
use Rattle.std.proofs.Common.{rules}
use Rattle.std.proofs.lemmas.Fn.{always_returns_same}
use Rattle.std.specs.Cmp.Lexicographic.{slice_cmp}
use Rattle.std.specs.Ordering.{nat_cmp}
use Rattle.crawl_pages.specs.declared.page.PageResult.{PageResult}
use Rattle.site_check.proofs.DocumentsFound.{first_by, first_not, first_read}
use Rattle.site_check.proofs.Placed.{item_at}
use Rattle.site_check.proofs.site_pages.Pages.find_result.Goals as goal

pub returns-in-Ok : goal.returns-in-Ok
returns-in-Ok c = λ order.
    let xs = c.args.self.now.results.now in
    let found = c.binary_search_by.ensures.position (λ (x : PageResult). slice_cmp nat_cmp x.url c.args.url.now) (always_returns_same _ _ _ (λ a r f' k. search rules)) in
    first_read (λ (x : PageResult). x.url) xs c.args.url.now c.in-Ok.number (option_map (λ x. x.now) c.get.result)
    (first_by (λ (x : PageResult). x.url) xs c.args.url.now c.binary_search_by.result c.in-Ok.number order.found c.binary_search_by.ensures.bound found c.in-Ok.is) (item_at xs c.in-Ok.number c.get.result c.get.ensures.lookup)

pub returns-in-Err : goal.returns-in-Err
returns-in-Err c = λ order.
    let found = c.binary_search_by.ensures.position (λ (x : PageResult). slice_cmp nat_cmp x.url c.args.url.now) (always_returns_same _ _ _ (λ a r f' k. search rules)) in
    sym (first_not (λ (x : PageResult). x.url) c.args.self.now.results.now c.args.url.now c.binary_search_by.result c.in-Err.field-0 order.found found c.in-Err.is)
