use Rattle.crawl_report.proofs.Prelude.{[], ◌∷◌, ap, Line}
use Rattle.crawl_report.proofs.Adding.{adds_same, queue_more}
use Rattle.crawl_report.proofs.printing.with_queues.Goals as goal

pub loop-queue-preserved : goal.loop-queue-preserved
loop-queue-preserved c =
    queue_more c.args.out c.loop-queue.out c.in_ok-out.out c.args.counts.now c.loop-queue.queue _ c.loop-queue-test.true c.loop-queue.invariant
    (adds_same c.loop-queue.out c.in_ok-out.out _ _ (ap (λ (l : Line). l ∷ []) c.queue_row.ensures) c.in_ok-out.ensures)
