use Rattle.mercator.proofs.Prelude.{err_from_is_err_and, joined, plan_of}
use native.Mathlib.Omega.{arith}
use Rattle.mercator.proofs.PlanTexts.{fails_in_files, filter_is, reads_neither, output_of}
use Rattle.mercator.proofs.commands.web_crawl.report_of_plan.Goals as goal

pub returns-clause-text : goal.returns-clause-text
returns-clause-text g c =
    let crawl = plan_of c.args.crawl.now in
    let files = c.in_ok-files.files in
    output_of crawl (g.I.Read.remaining c.args.input.now) files.0.items files.1.items c.in_ok-filter.filter c.in_ok-crawled.urls.items c.in_ok-crawled.crawled (joined c.in_ok-chunks.chunks.items)
    (filter_is crawl.options.within _ c.in_ok-filter.ensures) c.in_ok-files.ensures.files (rw (c.deref.ensures.value, c.deref-2.ensures.value) at c.in_ok-crawled.ensures.begun)
    (rw (c.deref.ensures.value, c.deref-2.ensures.value) at c.in_ok-crawled.ensures.found) (rw c.deref.ensures.value at c.in_ok-crawled.ensures.urls) (rw c.deref-3.ensures.value at c.in_ok-chunks.ensures)

pub returns-in_err-files-clause-error : goal.returns-in_err-files-clause-error
returns-in_err-files-clause-error g c = grind (arith, err_from_is_err_and, filter_is)

pub returns-in_err-crawled-clause-error : goal.returns-in_err-crawled-clause-error
returns-in_err-crawled-clause-error g c =
    let r = c.from_residual-in_err-crawled in
    let p = err_from_is_err_and r.result r.ensures.1 in
    let crawl = plan_of c.args.crawl.now in
    let files = c.in_ok-files.files in
    rw (p.1, p.2) (fails_in_files crawl (g.I.Read.remaining c.args.input.now) files.0.items files.1.items c.in_ok-filter.filter c.in_err-crawled.field-0.0
    (filter_is crawl.options.within _ c.in_ok-filter.ensures) c.in_ok-files.ensures.files (rw (c.deref.ensures.value, c.deref-2.ensures.value) at c.in_err-crawled.ensures.refused))

pub returns-clause-unread : goal.returns-clause-unread
returns-clause-unread g c = λ no. c.read_files.ensures.unread (reads_neither _ _ (filter_is c.args.crawl.now.options.now.within _ c.in_ok-filter.ensures).0 no)

pub returns-in_err-chunks-clause-unread : goal.returns-in_err-chunks-clause-unread
returns-in_err-chunks-clause-unread g c = λ no. c.read_files.ensures.unread (reads_neither _ _ (filter_is c.args.crawl.now.options.now.within _ c.in_ok-filter.ensures).0 no)
