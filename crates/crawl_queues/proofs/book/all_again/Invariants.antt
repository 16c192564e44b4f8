use Rattle.crawl_queues.proofs.Prelude.{◌≡◌, ◌≤◌, take, vec_len, vec_capacity}
use Rattle.crawl_queues.proofs.book.all_again.Given as goal

abbrev pub invariant-loop-queue : goal.invariant-loop-queue
invariant-loop-queue l = (l.learned.items ≡ l.initial.learned.items) × (l.all.items ≡ take l.queue l.initial.learned.items)
    × (vec_len l.all ≡ l.queue) × (vec_len l.queues ≤ vec_capacity l.all)
