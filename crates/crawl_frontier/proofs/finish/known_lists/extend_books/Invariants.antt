use Rattle.crawl_frontier.proofs.Prelude.{◌≡◌, ◌≤◌, ℕ, map, slice_get, book_of}
use Rattle.crawl_frontier.proofs.Learning.{LogsBelow}
use Rattle.crawl_frontier.proofs.finish.known_lists.extend_books.Given as goal

abbrev pub invariant-loop-index : goal.invariant-loop-index
invariant-loop-index g l =
    (l.shards.items ≡ l.initial.shards.items)
    × (map book_of l.books.items ≡ map book_of l.initial.books.items)
    × ((k : ℕ) → l.index ≤ k → slice_get l.books.items k ≡ slice_get l.initial.books.items k)
    × LogsBelow l.index l.initial.shards.items (map book_of l.initial.books.items)
