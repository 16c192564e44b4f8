use Rattle.crawl_queues.proofs.Prelude.{common_steps, ◌∙◌, arith, take_more, take_all, slice_get_read, get_or_from_slice_get}
use Rattle.crawl_queues.proofs.LogLines.{set_same}
use Rattle.crawl_queues.proofs.book.all_again.Goals as goal

pub again-known-requires : goal.again-known-requires
again-known-requires c = grind (arith, common_steps, slice_get_read)

pub loop-queue-preserved : goal.loop-queue-preserved
loop-queue-preserved c = grind (arith, common_steps, slice_get_read, set_same, get_or_from_slice_get, take_more)

pub returns-clause-again : goal.returns-clause-again
returns-clause-again c = c.loop-queue.invariant.1 ∙ take_all c.loop-queue.queue c.args.learned.now.items (omega (arith, c.requires.len))
