use Rattle.mercator_site.proofs.Prelude.{◌∙◌, map, string_bytes, sym, err_from_is_err_and, page_at}
use Rattle.std.proofs.Common.{true≢false}
use Rattle.mercator_site.proofs.TopCrawls.{starts_in, top_crawl, top_incomplete}
use Rattle.mercator_site.proofs.crawl.crawl_whole.Goals as goal

pub returns-clause-found : goal.returns-clause-found
returns-clause-found g c = λ web source.
    let top = c.args.top.now in
    let reachable = c.args.settings.reachable in
    let links = map string_bytes c.args.settings.seeds.now in
    let meaning = page_at c.args.pages.now in
    let begun = c.in_ok-seeds.seeds.items in
    top_crawl c.crawl_source.result meaning top web reachable links begun _ _ source
    (starts_in meaning web top reachable links begun source c.in_ok-seeds.ensures.begun c.in_ok-seeds.ensures.own) (c.as_slice.ensures.value ∙ c.in_ok-push_documents.ensures) c.crawl_source.ensures.found

pub returns-clause-incomplete : goal.returns-clause-incomplete
returns-clause-incomplete g c = λ web source.
    let top = c.args.top.now in
    let reachable = c.args.settings.reachable in
    let links = map string_bytes c.args.settings.seeds.now in
    let meaning = page_at c.args.pages.now in
    let begun = c.in_ok-seeds.seeds.items in
    top_incomplete c.crawl_source.result meaning top web reachable links begun _ source
    (starts_in meaning web top reachable links begun source c.in_ok-seeds.ensures.begun c.in_ok-seeds.ensures.own) c.crawl_source.ensures.incomplete

pub returns-in_err-push_documents-clause-incomplete : goal.returns-in_err-push_documents-clause-incomplete
returns-in_err-push_documents-clause-incomplete g c =
    let r = c.from_residual-in_err-push_documents in
    let same = err_from_is_err_and r.result r.ensures.1 in
    rw (same.1, same.2) (λ web source two. absurd (true≢false (sym two)))
