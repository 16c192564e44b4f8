use Rattle.crawl_frontier.proofs.Prelude.{◌≡◌, ◌∙◌, length, set, refl, sym, ap, subst, arith, slice_get_read, begins_with, Knows, book_of, ShardId}
use Rattle.crawl_frontier.proofs.Admitting.{Raises, raises, told_log, told_known, told_index}
use Rattle.crawl_frontier.proofs.offer.admit.Goals as goal

-- what the book knew before, and what it then knows of the queue's list
module _ (g : _) (c : goal.After-drop-iterator g) where
  known : Knows g.K.Name.queues g.K.Name.workers c.loop.book
  known = subst (Knows g.K.Name.queues g.K.Name.workers) (sym c.loop.invariant.2) c.requires.known

  raised : Raises c.loop.book.learned.items (set c.loop.book.learned.items c.args.queue c.extend_known.new.learned) c.args.queue c.args.offered.now.url.now c.args.offered.now.id c.args.offered.now.hops c.admit-admit.result
  raised =
      let b = c.loop.book in
      let o = c.args.offered.now in
      let q = c.args.queue in
      let k = c.index_mut.result.now in
      let u = c.extend_known.new.learned in
      let at = slice_get_read b.learned.items (length b.learned.items) q k refl (omega (arith, known.len, c.requires.within)) c.index_mut.ensures.value in
      let is : u ≡ begins_with c.subqueue-subqueue.result.now.list c.admit-admit.new.self.sent = c.extend_known.ensures.learned ∙ ap (λ (s : ShardId). begins_with c.subqueue-subqueue.result.now.list s.sent) c.deref_mut-then-queue.ensures.value in
      raises c.deref_mut.result.now c.admit-admit.new.self o.url.now o.id o.own o.hops c.args.unit g.K.Name.queues b.learned.items q c.subqueue-subqueue.result.now k u c.admit-admit.result
      known.lists_are c.subqueue-subqueue.ensures at is c.extend_known.ensures.stays c.admit-admit.ensures

pub returns-then-queue-clause-same : goal.returns-then-queue-clause-same
returns-then-queue-clause-same g c =
    let b = c.loop.book in
    (λ i. record {
      id = b.id;
      counts = b.counts.items;
      log = told_log b.learned.items _ _ _ _ _ _ (raised g c) b.lines.items g.K.Name.queues g.K.Name.workers (known g c) i;
    })
    ∙ ap book_of c.loop.invariant.2

pub returns-then-queue-clause-known : goal.returns-then-queue-clause-known
returns-then-queue-clause-known g c = told_known c.loop.book.learned.items _ _ _ _ _ _ (raised g c) c.loop.book.lines.items g.K.Name.queues g.K.Name.workers (known g c)

pub returns-then-queue-clause-index : goal.returns-then-queue-clause-index
returns-then-queue-clause-index g c = told_index c.loop.book.learned.items _ _ _ _ _ _ (raised g c)
