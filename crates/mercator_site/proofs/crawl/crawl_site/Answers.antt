use Rattle.mercator_site.proofs.Prelude.{err_from_is_err_and, map, string_bytes}
use Rattle.mercator_site.proofs.TopCrawls.{reached_of}
use Rattle.mercator_site.proofs.crawl.crawl_site.Goals as goal

pub returns-clause-found : goal.returns-clause-found
returns-clause-found g c = λ web source. c.in_ok-whole.ensures.found web source

pub returns-clause-reached : goal.returns-clause-reached
returns-clause-reached g c = λ web source.
    reached_of c.in_ok-reached.reached c.in_ok-whole.whole.result c.args.settings.report.lists.unreached c.args.settings.reachable c.args.files.now c.args.top.now web (map string_bytes c.args.settings.seeds.now)
    c.in_ok-reached.ensures.listed (c.in_ok-reached.ensures.found web source) (c.in_ok-whole.ensures.found web source)

pub returns-in_err-whole-clause-incomplete : goal.returns-in_err-whole-clause-incomplete
returns-in_err-whole-clause-incomplete g c =
    let r = c.from_residual-in_err-whole in
    let same = err_from_is_err_and r.result r.ensures.1 in
    rw (same.1, same.2) (λ web source two. c.in_err-whole.ensures.incomplete web source two)

pub returns-in_err-reached-clause-incomplete : goal.returns-in_err-reached-clause-incomplete
returns-in_err-reached-clause-incomplete g c =
    let r = c.from_residual in
    let same = err_from_is_err_and r.result r.ensures.1 in
    rw (same.1, same.2) (λ web source two. c.in_err-reached.ensures.incomplete web source two)
