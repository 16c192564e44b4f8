use Rattle.crawl_report.proofs.Prelude.{IfOk, ap, subst, ◌∙◌, flat_map, PageResult, Adds, lines_at, pointed}
use Rattle.crawl_report.proofs.report.referrers.with_all.Goals as goal

pub returns : goal.returns
returns c =
    let pages = c.args.pages.now in
    subst (λ rs. IfOk c.with_listed.result (λ more. Adds c.args.out more (flat_map (λ (r : PageResult). lines_at c.args.all pages r.url) rs)))
    (ap pointed c.deref-2.ensures.value ∙ c.in_ok-listed.ensures)
    (c.with_listed.ensures pages c.in_ok-tallies.ensures.counted)
