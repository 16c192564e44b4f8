use Rattle.crawl_frontier.proofs.Prelude.{book_of, CountsHold}
use Rattle.crawl_frontier.proofs.finish.compare.counts_hold.Given as goal

abbrev pub invariant-loop-queue : goal.invariant-loop-queue
invariant-loop-queue l = CountsHold l.queue l.lists (book_of l.book)
