use Rattle.library_calls.proofs.frontier.done.Given as goal

abbrev pub ghosts-run : goal.ghosts-run
ghosts-run g a = record { workers = a.setup.workers; gate = a.setup.gate; queues = a.setup.queues; filter = a.filter.now }
