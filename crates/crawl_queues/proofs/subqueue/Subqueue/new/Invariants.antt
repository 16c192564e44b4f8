use Rattle.crawl_queues.proofs.subqueue.Subqueue.new.Given as goal

abbrev pub ghosts-settle : goal.ghosts-settle
ghosts-settle a = record { home = record { gate = a.gate.now; workers = a.workers; queue = a.queue } }
