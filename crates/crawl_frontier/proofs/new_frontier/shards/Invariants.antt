use Rattle.crawl_frontier.proofs.Prelude.{◌≡◌, ◌+◌, length, vec_len, AllPush}
use Rattle.crawl_frontier.proofs.new_frontier.shards.Given as goal

abbrev pub invariant-loop-right : goal.invariant-loop-right
invariant-loop-right g l =
    AllPush g.K.Name.gate g.K.Name.workers g.K.Name.queues l.queue l.rights.items
    × (l.queue + length l.rights.items ≡ length l.fn.rights.items) × (vec_len l.made ≡ l.queue)

abbrev pub decreases-loop-right : goal.decreases-loop-right
decreases-loop-right g l = length l.rights.items
