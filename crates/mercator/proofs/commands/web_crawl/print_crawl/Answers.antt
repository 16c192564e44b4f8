use Rattle.mercator.proofs.Prelude.{inl, refl, subst, sym, err_from_is_err_and, joined, plan_of, IsCrawlOutput}
use Rattle.mercator.specs.Plans.{crawl_plan}
use Rattle.mercator.proofs.Endings.{text_done, text_ends}
use Rattle.mercator.proofs.commands.web_crawl.print_crawl.Goals as goal

pub returns-in_err-chunks-clause-error : goal.returns-in_err-chunks-clause-error
returns-in_err-chunks-clause-error g c =
    let r = c.from_residual in
    let same = err_from_is_err_and r.result r.ensures.1 in
    rw (same.1, same.2) (inl (c.in_err-chunks.ensures.error, refl))

pub returns-clause-done : goal.returns-clause-done
returns-clause-done g c =
    let crawl = c.args.crawl.now in
    let input = g.I.Read.remaining c.args.input.now in
    let is = subst (λ chunks. IsCrawlOutput (plan_of crawl) input (joined chunks)) (sym c.deref.ensures.value) c.in_ok-chunks.ensures.text in
    text_done (crawl_plan crawl) (joined c.deref.result.now) input _ _ c.end_by_chunks.result is c.end_by_chunks.ensures

pub returns-clause-error : goal.returns-clause-error
returns-clause-error g c =
    let crawl = c.args.crawl.now in
    let input = g.I.Read.remaining c.args.input.now in
    let is = subst (λ chunks. IsCrawlOutput (plan_of crawl) input (joined chunks)) (sym c.deref.ensures.value) c.in_ok-chunks.ensures.text in
    text_ends (crawl_plan crawl) (joined c.deref.result.now) input _ _ c.end_by_chunks.result _ is c.end_by_chunks.ensures
