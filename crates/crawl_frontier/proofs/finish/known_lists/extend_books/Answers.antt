use Rattle.crawl_frontier.proofs.Prelude.{◌≡◌, ◌≢◌, ◌∙◌, List, map, length, refl, sym, ap, subst, arith, slice_get_read, book_of, ShardId, At, LogIsOf}
use Rattle.crawl_frontier.proofs.Gets.{get_set_other, get_within}
use Rattle.std.proofs.lemmas.List.{length-map}
use Rattle.crawl_frontier.proofs.Learning.{map_set_same, book_more}
use Rattle.crawl_frontier.proofs.finish.known_lists.extend_books.Goals as goal

pub loop-index-init : goal.loop-index-init
loop-index-init g c = (refl, refl, λ k le. refl, λ j b lt at. absurd (omega (arith, lt)))

pub extend_book-requires-clause-known : goal.extend_book-requires-clause-known
extend_book-requires-clause-known g c = grind (arith, length-map, slice_get_read)

pub loop-index-preserved : goal.loop-index-preserved
loop-index-preserved g c =
    let i = c.loop-index.invariant in
    let n = c.loop-index.index in
    let start = c.args.books.now.items in
    let shards = c.args.shards.now.items in
    let cur = c.loop-index.books.items in
    let b = c.index_mut.result.now in
    let new = c.extend_book.new.book in
    let len : length cur ≡ length start = sym (length-map cur book_of) ∙ (ap length i.1 ∙ length-map start book_of) in
    let here : At cur n b = slice_get_read cur (length cur) n b refl (omega (arith, len, c.args.books.now.ok.0)) c.index_mut.ensures.value in
    let first : At start n b = sym (i.2 n (omega arith)) ∙ here in
    let log : LogIsOf shards (book_of b).log = subst (λ (l : List ShardId). LogIsOf l (book_of b).log) i.0 c.extend_book.ensures.log in (
      c.extend_book.ensures.same ∙ i.0,
      map_set_same book_of cur n b new here c.extend_book.ensures.book ∙ i.1,
      λ k le.
          let apart : k ≢ n = λ e. absurd (omega (arith, e, le)) in
          get_set_other cur n k new apart ∙ i.2 k (omega (arith, le)),
      book_more shards (map book_of start) start n b refl first i.3 log,
    )

pub returns-clause-logs : goal.returns-clause-logs
returns-clause-logs g c = λ j b at.
    let lt = get_within (map book_of c.args.books.now.items) j b at in
    c.loop-index.invariant.3 j b (omega (arith, lt, length-map c.args.books.now.items book_of, c.args.books.now.ok.0)) at
