use Rattle.crawl_sources.proofs.counting.tally_links.Goals as goal

pub returns-clause-counted : goal.returns-clause-counted
returns-clause-counted c = λ url. c.in_ok-count_results.ensures.counted url (c.in_ok-tallies.ensures.none c.args.all url)
