use Rattle.crawl_frontier.proofs.Prelude.{rules, arith, List, sym, subst, QueueId, KnownList, ListsAre}
use Rattle.crawl_frontier.proofs.Lines.{line-snoc, lists_are-snoc}
use Rattle.crawl_frontier.proofs.setup.subqueues.Goals as goal

pub loop-queue-preserved : goal.loop-queue-preserved
loop-queue-preserved c =
    let made = c.in_ok-subqueue.ensures in
    let i = c.loop-queue.invariant in (
      rw (c.push_reserved.ensures.items, c.push_back_reserved.ensures.items, c.push_back_reserved-in-loop-queue.ensures.items)
          (line-snoc c.args.gate.now c.args.workers _ _ _ _ _ _ _ i.0 (made.0, made.1) (made.2, made.3)),
      search rules,
      subst (λ (y : List QueueId × List KnownList). ListsAre y.0 y.1) (λ j. (sym c.push_reserved.ensures.items j, sym c.push_reserved-in-loop-queue.ensures.items j))
          (lists_are-snoc _ _ _ _ (omega (arith, i.0.queues_len, i.1, c.loop-queue.learned.ok.0)) i.2 made.4),
      search rules,
      search rules,
      search rules,
      search rules,
    )
