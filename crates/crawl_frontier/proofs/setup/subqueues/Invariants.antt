use Rattle.crawl_frontier.proofs.Prelude.{◌≡◌, ◌≤◌, vec_len, vec_capacity, Line, ListsAre}
use Rattle.std.specs.VecDeque.{deque_capacity}
use Rattle.crawl_frontier.proofs.setup.subqueues.Given as goal

abbrev pub invariant-loop-queue : goal.invariant-loop-queue
invariant-loop-queue l =
    Line l.gate l.workers l.queues.items l.push_rights.items l.pop_rights.items l.queue
    × (vec_len l.learned ≡ l.queue) × ListsAre l.queues.items l.learned.items
    × (l.workers ≤ vec_capacity l.queues) × (l.workers ≤ deque_capacity l.push_rights) × (l.workers ≤ deque_capacity l.pop_rights) × (l.workers ≤ vec_capacity l.learned)
