use Rattle.crawl_run_tests.proofs.tests.runs.Run.left.Given as goal

abbrev pub ghosts-left_by : goal.ghosts-left_by
ghosts-left_by g a = record { workers = a.setup.workers; gate = a.setup.gate; queues = a.setup.queues; filter = a.filter.now }
