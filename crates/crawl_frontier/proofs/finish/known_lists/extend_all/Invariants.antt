use Rattle.crawl_frontier.proofs.Prelude.{◌≡◌, AreRaised}
use Rattle.crawl_frontier.proofs.Learning.{TrueBelow}
use Rattle.crawl_frontier.proofs.finish.known_lists.extend_all.Given as goal

abbrev pub invariant-loop-queue : goal.invariant-loop-queue
invariant-loop-queue g l =
    (l.shards.items ≡ l.initial.shards.items)
    × AreRaised l.initial.learned.items l.learned.items
    × TrueBelow l.queue l.initial.shards.items l.learned.items
