use Rattle.crawl_queues.proofs.growing.Growing.grow.Given as goal

abbrev pub ghosts-add : goal.ghosts-add
ghosts-add a = record { entry = a.entry.now }
