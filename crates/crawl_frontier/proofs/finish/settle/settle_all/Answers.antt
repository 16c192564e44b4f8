use Rattle.crawl_frontier.proofs.Prelude.{rules, ◌≡◌, ◌∙◌, ◌++◌, ◌∷◌, ◌+◌, ℕ, List, Option, sym, ap, arith, length, length-append, subst, [], Entry, Doubt, ShardId, Begins, SettlesAt, AllSettle}
use Rattle.crawl_frontier.proofs.Gets.{get_before, get_last}
use Rattle.crawl_frontier.proofs.Settling.{settle_more}
use Rattle.crawl_frontier.proofs.finish.settle.settle_all.Goals as goal

pub settle_last-list-requires-clause-right : goal.settle_last-list-requires-clause-right
settle_last-list-requires-clause-right g c = λ p is.
    let queue = c.loop-queue.queue in
    c.requires.rights queue p (sym (c.loop-queue.invariant.4 queue (omega arith)) ∙ is)

pub loop-queue-preserved : goal.loop-queue-preserved
loop-queue-preserved g c =
    let i = c.loop-queue.invariant in
    let queue = c.loop-queue.queue in
    let lists = c.loop-queue.lists.items in
    let doubts = c.loop-queue.doubts.items in
    let shards = c.args.shards.items in
    let r = c.settle_last-list in
    let last = r.ensures.last in
    let shard = last.0 in
    let right = last.1 in
    let left = r.new.shards.items in
    let all : c.loop-queue.shards.items ≡ left ++ shard ∷ [] = last.2 in
    let begins : Begins (left ++ shard ∷ []) shards = subst (λ (l : List ShardId). Begins l shards) all i.3 in
    let at : queue ≡ length lists = omega (arith, i.0, c.loop-queue.lists.ok.0) in
    let one : length left + 1 ≡ length c.loop-queue.shards.items = omega (arith, ap length all, length-append left (shard ∷ [])) in
    let sum : length left + queue + 1 ≡ length shards = omega (arith, i.2, one, c.loop-queue.shards.ok.0, c.args.shards.ok.0, c.requires.shards) in
    let settles : SettlesAt g.K.Name.workers g.K.Name.queues shards c.args.rights queue r.result.0 r.result.1 =
    (length left, shard, right, begins (length left) shard (get_last left shard), sum, sym (i.4 queue (omega arith)) ∙ last.3, last.4) in
    let more : AllSettle g.K.Name.workers g.K.Name.queues shards c.args.rights (lists ++ r.result.0 ∷ []) (doubts ++ r.result.1 ∷ []) =
    settle_more g.K.Name.workers g.K.Name.queues shards c.args.rights lists doubts r.result.0 r.result.1 i.5 (omega (arith, at, i.1, c.loop-queue.doubts.ok.0))
    (subst (λ (n : ℕ). SettlesAt g.K.Name.workers g.K.Name.queues shards c.args.rights n r.result.0 r.result.1) at settles) in (
      search rules,
      search rules,
      omega (arith, i.2, one, c.loop-queue.shards.ok.0, r.new.shards.ok.0),
      λ k x is. begins k x (get_before left shard x k is),
      λ q le. r.ensures.others q (omega (arith, le)) ∙ i.4 q (omega (arith, le)),
      subst (λ (y : List (List Entry) × List (Option Doubt)). AllSettle g.K.Name.workers g.K.Name.queues shards c.args.rights y.0 y.1) (λ i. (sym c.push_reserved.ensures.items i, sym c.push_reserved-in-loop-queue.ensures.items i)) more,
      search rules,
      search rules,
    )
