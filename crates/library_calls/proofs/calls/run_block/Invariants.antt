use Rattle.library_calls.proofs.calls.run_block.Given as goal

abbrev pub ghosts-calls : goal.ghosts-calls
ghosts-calls g a = record { workers = a.setup.workers; gate = a.setup.gate; queues = a.setup.queues; filter = a.filter.now }
