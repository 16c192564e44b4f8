use Rattle.crawl_frontier.proofs.Prelude.{◌≡◌, ◌≤◌, ◌+◌, length, vec_len, vec_capacity, Knows, book_of, AllPop, AllFresh}
use Rattle.crawl_frontier.proofs.new_frontier.workers.Given as goal

abbrev pub invariant-loop-right : goal.invariant-loop-right
invariant-loop-right g l =
    AllPop g.K.Name.gate g.K.Name.workers g.K.Name.queues l.queue l.rights.items
    × (l.queue + length l.rights.items ≡ length l.fn.rights.items) × (vec_len l.made ≡ l.queue)
    × (l.opening ≡ l.initial.opening) × AllFresh g.K.Name.gate g.K.Name.workers 0 l.made.items
    × (book_of l.book ≡ book_of l.initial.book) × Knows g.K.Name.queues g.K.Name.workers l.book
    × (g.K.Name.workers ≤ vec_capacity l.made)

abbrev pub decreases-loop-right : goal.decreases-loop-right
decreases-loop-right g l = length l.rights.items
