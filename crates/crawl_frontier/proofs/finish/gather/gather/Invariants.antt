use Rattle.crawl_frontier.proofs.Prelude.{◌<◌, ◌≤◌, map, vec_len, length, Knows, book_of, AllAre, Slots, Placed, Gathered, IsShared}
use Rattle.crawl_frontier.proofs.finish.gather.gather.Given as goal

abbrev pub invariant-loop-worker : goal.invariant-loop-worker
invariant-loop-worker g l =
    Slots g.K.Name.gate g.K.Name.workers g.K.Name.queues l.fn.closed.items l.rights
    × Placed g.K.Name.gate g.K.Name.workers l.fn.closed.items (length l.closed.items) l.rights l.unshared
    × Gathered g.K.Name.workers l.fn.closed.items l.fn.senders.items l.closed.items l.fn.senders.items (map book_of l.books.items)
    × (l.unshared ≤ l.workers)
    × (l.unshared < l.workers → IsShared l.fn.closed.items l.unshared)
    × AllAre (Knows g.K.Name.queues g.K.Name.workers) l.books.items

abbrev pub decreases-loop-worker : goal.decreases-loop-worker
decreases-loop-worker g l = vec_len l.closed
