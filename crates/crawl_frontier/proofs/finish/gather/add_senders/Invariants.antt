use Rattle.crawl_frontier.proofs.Prelude.{List, [], map, vec_len, WorkerId, Knows, book_of, AllAre, Gathered}
use Rattle.crawl_frontier.proofs.finish.gather.add_senders.Given as goal

abbrev pub invariant-loop-sender : goal.invariant-loop-sender
invariant-loop-sender g l =
    ((closed : List WorkerId)
    → Gathered g.K.Name.workers closed l.fn.senders.items [] l.fn.senders.items (map book_of l.initial.books.items)
    → Gathered g.K.Name.workers closed l.fn.senders.items [] l.senders.items (map book_of l.books.items))
    × AllAre (Knows g.K.Name.queues g.K.Name.workers) l.books.items

abbrev pub decreases-loop-sender : goal.decreases-loop-sender
decreases-loop-sender g l = vec_len l.senders
