use Rattle.crawl_gate_tests.proofs.tests.pool.a_pool_ends_when_all_its_work_is_done.Given as goal

abbrev pub ghosts-share_out : goal.ghosts-share_out
ghosts-share_out g a = record { gate = a.gate.now }
