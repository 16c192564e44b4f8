use Rattle.crawl_frontier.proofs.Prelude.{◌≡◌, ◌≤◌, ◌+◌, ℕ, vec_len, vec_capacity, nat_cmp, get, Begins, AllSettle}
use Rattle.crawl_frontier.proofs.finish.settle.settle_all.Given as goal

-- the queues before this one have their list, and why they are in doubt, if they are. The shards of these queues were taken from the end of
-- `shards`; the rights to pop from the other queues are left
abbrev pub invariant-loop-queue : goal.invariant-loop-queue
invariant-loop-queue g l =
    (vec_len l.lists ≡ l.queue) × (vec_len l.doubts ≡ l.queue)
    × (vec_len l.shards + l.queue ≡ g.K.Name.workers)
    × Begins l.shards.items l.fn.shards.items
    × ((q : ℕ) → l.queue ≤ q → get nat_cmp l.rights q ≡ get nat_cmp l.fn.rights q)
    × AllSettle g.K.Name.workers g.K.Name.queues l.fn.shards.items l.fn.rights l.lists.items l.doubts.items
    × (g.K.Name.workers ≤ vec_capacity l.lists) × (g.K.Name.workers ≤ vec_capacity l.doubts)
