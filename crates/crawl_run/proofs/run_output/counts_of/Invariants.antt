use Rattle.crawl_run.specs.Crawls.{CountedBelow}
use Rattle.crawl_run.proofs.run_output.counts_of.Given as goal

abbrev pub invariant-loop-queue : goal.invariant-loop-queue
invariant-loop-queue l = CountedBelow l.queue l.account l.counts.items
