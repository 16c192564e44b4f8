use Rattle.crawl_report.proofs.Prelude.{take, Adds}
use Rattle.crawl_report.specs.Rows.{queue_lines}
use Rattle.crawl_report.proofs.printing.with_queues.Given as goal

abbrev pub invariant-loop-queue : goal.invariant-loop-queue
invariant-loop-queue l = Adds l.fn.out l.out (queue_lines (take l.queue l.counts))
