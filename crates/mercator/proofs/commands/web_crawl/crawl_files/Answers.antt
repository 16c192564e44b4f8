use Rattle.mercator.proofs.Prelude.{◌≤◌, length, arith, common_steps, err_from_is_err_and, page_at}
use Rattle.mercator.proofs.SiteCrawls.{found_of, unbegun_of, unread_unbegun}
use Rattle.mercator.proofs.commands.web_crawl.crawl_files.Goals as goal

pub returns-clause-found : goal.returns-clause-found
returns-clause-found g c =
    let web = c.in_ok-web in
    found_of c.args.settings.now.workers c.args.bytes.now c.args.listed.now _ c.args.settings.now.filter.now (page_at web.web) web.seeds.items c.in_ok-crawled.crawled
    web.ensures.sound web.ensures.pages (rw c.deref.ensures.value at web.ensures.named) (rw c.deref-2.ensures.value at c.in_ok-crawled.ensures.pages) c.in_ok-crawled.ensures.counts

pub returns-in_err-crawled-clause-refused : goal.returns-in_err-crawled-clause-refused
returns-in_err-crawled-clause-refused g c =
    let r = c.from_residual-in_err-crawled in
    let p = err_from_is_err_and r.result r.ensures.1 in
    let web = c.in_ok-web in
    let failure = c.in_err-crawled.field-0.0 in
    let some : 1 ≤ length web.seeds.items = grind (arith, common_steps) in
    rw (p.1, p.2) (unbegun_of c.args.settings.now.workers c.args.settings.now.max_pending c.args.bytes.now c.args.listed.now _ c.args.settings.now.filter.now (page_at web.web) web.seeds.items failure
    web.ensures.sound web.ensures.pages (rw c.deref.ensures.value at web.ensures.named) some
    c.in_err-crawled.ensures.numbers (rw c.deref-2.ensures.value at c.in_err-crawled.ensures.judged) c.in_err-crawled.ensures.lost (rw c.deref-2.ensures.value at c.in_err-crawled.ensures.counted))

pub returns-in_err-web-clause-refused : goal.returns-in_err-web-clause-refused
returns-in_err-web-clause-refused g c = grind (arith, err_from_is_err_and, unread_unbegun)
