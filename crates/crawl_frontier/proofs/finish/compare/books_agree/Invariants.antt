use Rattle.crawl_frontier.proofs.Prelude.{◌≡◌, ◌++◌, List, map, vec_len, BookId, book_of, AgreeTo}
use Rattle.crawl_frontier.proofs.finish.compare.books_agree.Given as goal

abbrev pub invariant-loop-book : goal.invariant-loop-book
invariant-loop-book l =
    (bs : List BookId) × (map book_of l.fn.books.items ≡ map book_of l.books.items ++ bs) × AgreeTo l.least l.fn.least l.lists bs

abbrev pub decreases-loop-book : goal.decreases-loop-book
decreases-loop-book l = vec_len l.books
