use Rattle.crawl_frontier.proofs.Prelude.{◌-◌, ◌∙◌, List, set, length, refl, ap, subst, arith, slice_get_read, ShardId, At, set_same}
use Rattle.crawl_frontier.proofs.Logging.{raised_lists}
use Rattle.crawl_frontier.proofs.Learning.{true_of_more, true_of}
use Rattle.crawl_frontier.proofs.finish.known_lists.extend_all.Goals as goal

pub extend_one-requires-clause-learned : goal.extend_one-requires-clause-learned
extend_one-requires-clause-learned g c =
    let i = c.loop-queue.invariant in
    let n = c.loop-queue.queue in
    let cur = c.loop-queue.learned.items in
    let t = c.index_mut-in-loop-queue.result.now in
    let s = c.index.result.now in
    let here : At cur n t = slice_get_read cur (length cur) n t refl (omega (arith, i.1.0, c.requires.len, c.requires.queues.1)) c.index_mut-in-loop-queue.ensures.value in
    let queues = c.args.queues.now.items in
    let there : At queues n s = slice_get_read queues (length queues) n s refl (omega (arith, c.args.queues.now.ok.0)) c.index.ensures in
    raised_lists g.K.Name.queues c.args.learned.now.items cur i.1 c.requires.lists n s t (subst (λ (l : List _). At l n s) c.requires.queues.0 there) here

pub loop-queue-preserved : goal.loop-queue-preserved
loop-queue-preserved g c =
    let i = c.loop-queue.invariant in
    let n = c.loop-queue.queue in
    let place = c.len-count.result - 1 - n in
    let start = c.args.learned.now.items in
    let shards = c.args.shards.now.items in
    let cur = c.loop-queue.learned.items in
    let now = c.loop-queue.shards.items in
    let s = c.index_mut.result.now in
    let t = c.index_mut-in-loop-queue.result.now in
    let u = c.extend_one.new.learned in
    let len = ap length i.0 in
    let here : At cur n t = slice_get_read cur (length cur) n t refl (omega (arith, i.1.0, c.requires.len, c.requires.queues.1)) c.index_mut-in-loop-queue.ensures.value in
    let read : At now place s = slice_get_read now (length now) place s refl (omega (arith, len, c.requires.shards, c.requires.queues.1, c.args.shards.now.ok.0)) c.index_mut.ensures.value in
    let there : At shards place s = subst (λ (l : List ShardId). At l place s) i.0 read in
    let more = true_of_more shards start cur (set cur n u) n place s t u i.1 i.2 here c.extend_one.ensures.list c.extend_one.ensures.stays refl there
    (omega (arith, c.requires.shards, c.requires.queues.1, c.args.shards.now.ok.0)) c.extend_one.ensures.learned in
    ((λ k. set (i.0 k) place (c.extend_one.ensures.same k)) ∙ set_same shards place s there, more.0, more.1)

pub returns-clause-learned : goal.returns-clause-learned
returns-clause-learned g c =
    let i = c.loop-queue.invariant in
    true_of c.loop-queue.queue c.args.shards.now.items c.loop-queue.learned.items i.2 (omega (arith, i.1.0, c.requires.len, c.requires.queues.1))
