use Rattle.crawl_frontier.proofs.Prelude.{map, book_of}
use Rattle.crawl_frontier.proofs.Settling.{IdsBelow}
use Rattle.crawl_frontier.proofs.finish.compare.ids_of.Given as goal

abbrev pub invariant-loop-book : goal.invariant-loop-book
invariant-loop-book l = IdsBelow (map book_of l.books) l.book-index l.ids
