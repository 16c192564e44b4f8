use Rattle.crawl_run.proofs.whole_crawl.crawl_with.Given as goal

abbrev pub ghosts-crawl_named : goal.ghosts-crawl_named
ghosts-crawl_named g a = record { workers = a.setup.workers; gate = a.setup.gate; queues = a.setup.queues; filter = a.settings.now.filter.now }
