use Rattle.library_calls.proofs.crawler.accepted.Given as goal

abbrev pub ghosts-crawl_from : goal.ghosts-crawl_from
ghosts-crawl_from g a = record { workers = a.setup.workers; gate = a.setup.gate; queues = a.setup.queues; filter = a.filter.now }
