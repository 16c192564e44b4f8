use Rattle.crawl_run.proofs.run.crawl_named.Goals as goal

pub returns-clause-judged : goal.returns-clause-judged
returns-clause-judged g c = c.crawled_of.ensures.judged (g.F.SessionFetch.meaning c.args.fetcher.now) c.in_ok-ran.ensures.pages
