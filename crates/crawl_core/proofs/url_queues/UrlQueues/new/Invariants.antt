use Rattle.crawl_core.proofs.Prelude.{◌≡◌, replicate, empty_queue}
use Rattle.crawl_core.proofs.url_queues.UrlQueues.new.Given as goal

abbrev pub invariant-loop-made : goal.invariant-loop-made
invariant-loop-made l = l.queues.items ≡ replicate l._made empty_queue
