use Rattle.crawl_frontier.proofs.Prelude.{rules, ◌≡◌, ◌∙◌, ◌+◌, ◌<◌, ◌++◌, ◌∷◌, [], ℕ, List, map, sym, ap, subst, length, length-append, cond, true, None, Some, arith, vec_len, is_some, MatchOption, nat_cmp, get, is_at, map-append, nil_from_length, Book, BookId, Knows, book_of, IsBook, WorkerId, At, AllAre, Placed, Gathered}
use Rattle.crawl_frontier.proofs.Gets.{get_last}
use Rattle.crawl_frontier.proofs.Learning.{all_snoc}
use Rattle.crawl_frontier.proofs.Gathering.{gather-none, gather-worker}
use Rattle.crawl_frontier.proofs.Settling.{placed-none, slots_more, placed_more, shared_more}
use Rattle.crawl_frontier.proofs.finish.gather.gather.Goals as goal

pub loop-worker-init : goal.loop-worker-init
loop-worker-init g c =
    let none : (q : ℕ) → get nat_cmp c.new-rights.result q ≡ None = λ q. search rules in
    let closed = c.args.closed.items in
    let senders = c.args.senders.items in (
      λ q p is. let both : Some p ≡ None = sym is ∙ none q in absurd (cc (both)),
      placed-none g.K.Name.gate g.K.Name.workers closed c.new-rights.result c.args.workers none,
      subst (λ (l : List Book). Gathered g.K.Name.workers closed senders closed senders (map book_of l)) (sym c.new-books.ensures.items) (gather-none g.K.Name.workers closed senders),
      omega arith,
      λ lt. absurd (omega (arith, lt)),
      subst (AllAre (Knows g.K.Name.queues g.K.Name.workers)) (sym c.new-books.ensures.items) (λ j b at. absurd (cc (at))),
    )

pub loop-worker-preserved : goal.loop-worker-preserved
loop-worker-preserved g c =
    let i = c.loop-worker.invariant in
    let w = c.in-Some.worker in
    let left = c.pop.new.self.items in
    let all : c.loop-worker.closed.items ≡ left ++ w ∷ [] = c.in-Some.ensures.items in
    let parts = c.into_parts-right in
    let before : Gathered g.K.Name.workers c.args.closed.items c.args.senders.items (left ++ w ∷ []) c.args.senders.items (map book_of c.loop-worker.books.items) =
    subst (λ (l : List WorkerId). Gathered g.K.Name.workers c.args.closed.items c.args.senders.items l c.args.senders.items (map book_of c.loop-worker.books.items)) all i.2 in
    let book : book_of parts.result.1 ≡ w.book = parts.ensures.book in
    let after = gather-worker g.K.Name.workers c.args.closed.items c.args.senders.items left w c.args.senders.items (map book_of c.loop-worker.books.items) before (subst (IsBook g.K.Name.workers) book parts.ensures.is_book) in
    let books : map book_of c.push.new.self.items ≡ map book_of c.loop-worker.books.items ++ w.book ∷ [] =
    ap (map book_of) c.in_ok-push.ensures.items ∙ (map-append book_of c.loop-worker.books.items (parts.result.1 ∷ []) ∙ ap (λ (b : BookId). map book_of c.loop-worker.books.items ++ b ∷ []) book) in
    let queue : c.queue-queue.result ≡ w.queue = c.queue-queue.ensures.0 in
    let here : At c.args.closed.items (length left) w = before.begin (length left) w (get_last left w) in
    let updates : (q : ℕ) → get nat_cmp c.place.new.rights q ≡ cond (is_at (nat_cmp w.queue) q) (Some parts.result.0) (get nat_cmp c.loop-worker.rights q) =
    λ q. c.in_ok-unshared.ensures.updates q ∙ ap (λ (k : ℕ). cond (is_at (nat_cmp k) q) (Some parts.result.0) (get nat_cmp c.loop-worker.rights q)) queue in
    let placed : Placed g.K.Name.gate g.K.Name.workers c.args.closed.items (length left + 1) c.loop-worker.rights c.loop-worker.unshared =
    subst (λ (n : ℕ). Placed g.K.Name.gate g.K.Name.workers c.args.closed.items n c.loop-worker.rights c.loop-worker.unshared) (ap length all ∙ length-append left (w ∷ [])) i.1 in
    let none : w.queue < c.in_ok-unshared.unshared → get nat_cmp c.loop-worker.rights w.queue ≡ None =
    λ lt. ap (get nat_cmp c.loop-worker.rights) (sym queue) ∙ c.in_ok-unshared.ensures.good (subst (λ (k : ℕ). k < c.in_ok-unshared.unshared) (sym queue) lt) in
    let named : c.in_ok-unshared.unshared < c.loop-worker.unshared → (c.in_ok-unshared.unshared ≡ w.queue) × (is_some (get nat_cmp c.loop-worker.rights w.queue) ≡ true) =
    λ lt. let p = c.in_ok-unshared.ensures.named lt in (p.0 ∙ queue, ap (λ (k : ℕ). is_some (get nat_cmp c.loop-worker.rights k)) (sym queue) ∙ p.1) in (
      slots_more g.K.Name.gate g.K.Name.workers g.K.Name.queues c.args.closed.items c.loop-worker.rights c.place.new.rights (length left) w parts.result.0 i.0 updates here parts.ensures.right.0 parts.ensures.right.1,
      placed_more g.K.Name.gate g.K.Name.workers c.args.closed.items c.loop-worker.rights c.place.new.rights (length left) w parts.result.0 c.loop-worker.unshared c.in_ok-unshared.unshared placed here
          (subst (λ (k : ℕ). k < g.K.Name.workers) queue c.queue-queue.ensures.1) updates parts.ensures.right.0 c.in_ok-unshared.ensures.below none,
      subst (λ (l : List BookId). Gathered g.K.Name.workers c.args.closed.items c.args.senders.items left c.args.senders.items l) (sym books) after,
      omega (arith, i.3, c.in_ok-unshared.ensures.below),
      shared_more g.K.Name.gate g.K.Name.workers c.args.closed.items c.loop-worker.rights (length left) w c.args.workers c.loop-worker.unshared c.in_ok-unshared.unshared placed here c.in_ok-unshared.ensures.below named i.4,
      subst (AllAre (Knows g.K.Name.queues g.K.Name.workers)) (sym c.in_ok-push.ensures.items)
          (all_snoc (Knows g.K.Name.queues g.K.Name.workers) c.loop-worker.books.items parts.result.1 i.5 parts.ensures.known),
    )

pub returns : goal.returns
returns g c =
    let i = c.loop-worker.invariant in
    let closed = c.args.closed.items in
    let senders = c.args.senders.items in
    let left = c.loop-worker.closed in
    let over : c.pop.result ≡ None = search rules in
    let none : vec_len left ≡ 0 = (subst (λ o. MatchOption o ((vec_len left ≡ 0) × (vec_len c.pop.new.self ≡ 0)) (λ _. vec_len c.pop.new.self + 1 ≡ vec_len left)) over c.pop.ensures.cases).0 in
    let empty : left.items ≡ [] = nil_from_length left.items (omega (arith, none, left.ok.0)) in (
      i.0,
      subst (λ (l : List WorkerId). Placed g.K.Name.gate g.K.Name.workers closed (length l) c.loop-worker.rights c.loop-worker.unshared) empty i.1,
      c.in_ok-add_senders.ensures.gathered closed (subst (λ (l : List WorkerId). Gathered g.K.Name.workers closed senders l senders (map book_of c.loop-worker.books.items)) empty i.2),
      i.3,
      i.4,
      c.in_ok-add_senders.ensures.known,
    )
