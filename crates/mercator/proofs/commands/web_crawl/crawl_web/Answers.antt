use Rattle.mercator.proofs.Prelude.{subst, IfErr, IfOk, IsCrawl, IsJudgedAt, allows, page_at, Crawled, CrawlFailure}
use Rattle.crawl_run.specs.JudgedRuns.{CountsLosses}
use Rattle.saved_web.specs.declared.web.SavedWeb.{SavedWeb}
use Rattle.mercator.proofs.commands.web_crawl.crawl_web.Goals as goal

pub returns-clause-pages : goal.returns-clause-pages
returns-clause-pages g c =
    subst (λ (web : SavedWeb). IfOk c.crawl_source.result (λ (crawled : Crawled). IsCrawl (page_at web) (allows c.args.settings.now.filter.now) c.args.seeds.now crawled.result)) c.new-source.ensures c.crawl_source.ensures.pages

pub returns-clause-judged : goal.returns-clause-judged
returns-clause-judged g c =
    subst (λ (web : SavedWeb). IfErr c.crawl_source.result (λ (failure : CrawlFailure). IsJudgedAt (page_at web) (allows c.args.settings.now.filter.now) c.args.seeds.now failure.error failure.culprit)) c.new-source.ensures c.crawl_source.ensures.judged

pub returns-clause-counted : goal.returns-clause-counted
returns-clause-counted g c =
    let settings = c.args.settings.now in
    subst (λ (web : SavedWeb). IfErr c.crawl_source.result (λ (failure : CrawlFailure). CountsLosses settings.workers (allows settings.filter.now) (page_at web) c.args.seeds.now failure.error failure.culprit failure.losses)) c.new-source.ensures c.crawl_source.ensures.counted
