use Rattle.mercator.proofs.Prelude.{[], map, string_bytes, Global, subst, arith, err_from_is_err_and, result_urls, AreCounts, page_at}
use Rattle.mercator.proofs.SiteCrawls.{comes_of, found_of, one_site_crawl, refused_of, unread_comes, unread_refused}
use Rattle.mercator.proofs.commands.web_report.report_of_saved_web.Goals as goal

pub returns-clause-report : goal.returns-clause-report
returns-clause-report g c =
    let found = found_of c.args.settings.now.workers c.args.bytes.now [] _ c.args.settings.now.filter.now (page_at c.in_ok-web.web) c.in_ok-web.urls.items c.in_ok-found.found
    c.in_ok-web.ensures.sound c.in_ok-web.ensures.pages c.in_ok-web.ensures.named (rw (c.deref.ensures.value, c.new-source.ensures) at c.in_ok-found.ensures.pages) c.in_ok-found.ensures.counts in
    record {
      pages = c.in_ok-found.found.result;
      crawl = found.crawl;
      written = rw c.pages.ensures at c.in_ok-text.ensures;
    }

pub returns-clause-counts : goal.returns-clause-counts
returns-clause-counts g c = λ pages crawl.
    let found = found_of c.args.settings.now.workers c.args.bytes.now [] _ c.args.settings.now.filter.now (page_at c.in_ok-web.web) c.in_ok-web.urls.items c.in_ok-found.found
    c.in_ok-web.ensures.sound c.in_ok-web.ensures.pages c.in_ok-web.ensures.named (rw (c.deref.ensures.value, c.new-source.ensures) at c.in_ok-found.ensures.pages) c.in_ok-found.ensures.counts in
    subst (λ found. AreCounts c.args.settings.now.workers (result_urls found) c.in_ok-found.found.counts.items)
    (one_site_crawl c.args.bytes.now [] (map (string_bytes {Z = Global}) c.args.seeds.now) c.args.settings.now.filter.now c.in_ok-found.found.result pages found.crawl crawl)
    found.counted

pub returns-in_err-found-clause-refused : goal.returns-in_err-found-clause-refused
returns-in_err-found-clause-refused g c =
    let r = c.from_residual-in_err-found in
    let p = err_from_is_err_and r.result r.ensures.1 in
    rw (p.1, p.2) (refused_of c.args.settings.now.workers c.args.settings.now.max_pending c.args.bytes.now _ c.args.settings.now.filter.now (page_at c.in_ok-web.web) c.in_ok-web.urls.items c.in_err-found.field-0.0
    c.in_ok-web.ensures.sound c.in_ok-web.ensures.pages c.in_ok-web.ensures.named c.in_err-found.ensures.numbers (rw (c.deref.ensures.value, c.new-source.ensures) at c.in_err-found.ensures.judged)
    c.in_err-found.ensures.lost (rw (c.deref.ensures.value, c.new-source.ensures) at c.in_err-found.ensures.counted))

pub returns-in_err-found-clause-mode : goal.returns-in_err-found-clause-mode
returns-in_err-found-clause-mode g c = grind (arith, err_from_is_err_and, comes_of)

pub returns-in_err-web-clause-refused : goal.returns-in_err-web-clause-refused
returns-in_err-web-clause-refused g c = grind (arith, err_from_is_err_and, unread_refused)

pub returns-in_err-web-clause-mode : goal.returns-in_err-web-clause-mode
returns-in_err-web-clause-mode g c = grind (arith, err_from_is_err_and, unread_comes)
