use Rattle.crawl_frontier.proofs.Prelude.{rules, arith, ◌≡◌, ◌+◌, ◌∙◌, ◌++◌, ◌∷◌, [], List, None, map, vec_len, sym, ap, subst, map-append, nil_from_length, MatchOption, BookId, Knows, book_of, IsBook, SenderId, AllAre, Gathered}
use Rattle.crawl_frontier.proofs.Learning.{all_snoc}
use Rattle.crawl_frontier.proofs.Gathering.{gather-sender}
use Rattle.crawl_frontier.proofs.finish.gather.add_senders.Goals as goal

pub loop-sender-preserved : goal.loop-sender-preserved
loop-sender-preserved g c =
    let s = c.in-Some.sender in
    let left = c.pop.new.self.items in
    let senders = c.args.senders.items in
    let books = c.loop-sender.books.items in
    let all : c.loop-sender.senders.items ≡ left ++ s ∷ [] = c.in-Some.ensures.items in
    let book : book_of c.into_book.result ≡ s.book = c.into_book.ensures.book in
    let more : map book_of c.push.new.self.items ≡ map book_of books ++ s.book ∷ [] =
    ap (map book_of) c.in_ok-push.ensures.items ∙ (map-append book_of books (c.into_book.result ∷ []) ∙ ap (λ (b : BookId). map book_of books ++ b ∷ []) book) in (
      λ closed start.
          subst (λ (l : List BookId). Gathered g.K.Name.workers closed senders [] left l) (sym more)
          (gather-sender g.K.Name.workers closed senders [] left s (map book_of books)
          (subst (λ (l : List SenderId). Gathered g.K.Name.workers closed senders [] l (map book_of books)) all (c.loop-sender.invariant.0 closed start))
          (subst (IsBook g.K.Name.workers) book c.into_book.ensures.is_book)),
      subst (AllAre (Knows g.K.Name.queues g.K.Name.workers)) (sym c.in_ok-push.ensures.items)
          (all_snoc (Knows g.K.Name.queues g.K.Name.workers) books c.into_book.result c.loop-sender.invariant.1 c.into_book.ensures.known),
    )

pub returns-clause-gathered : goal.returns-clause-gathered
returns-clause-gathered g c = λ closed start.
    let left = c.loop-sender.senders in
    let over : c.pop.result ≡ None = search rules in
    let none : vec_len left ≡ 0 = (subst (λ o. MatchOption o ((vec_len left ≡ 0) × (vec_len c.pop.new.self ≡ 0)) (λ _. vec_len c.pop.new.self + 1 ≡ vec_len left)) over c.pop.ensures.cases).0 in
    let empty : left.items ≡ [] = nil_from_length left.items (omega (arith, none, left.ok.0)) in
    subst (λ (l : List SenderId). Gathered g.K.Name.workers closed c.args.senders.items [] l (map book_of c.loop-sender.books.items)) empty (c.loop-sender.invariant.0 closed start)
