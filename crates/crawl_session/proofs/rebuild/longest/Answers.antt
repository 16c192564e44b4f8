use Rattle.crawl_session.proofs.Prelude.{◌≡◌, take, ◌∙◌, ap, sym, length, rules}
use Rattle.std.specs.Prelude.{max}
use Rattle.std.proofs.lemmas.List.{take_more}
use Rattle.crawl_session.proofs.Rebuilding.{longest_push}
use Rattle.crawl_session.proofs.rebuild.longest.Goals as goal

pub loop-queue-preserved : goal.loop-queue-preserved
loop-queue-preserved c =
    let i = c.loop-queue.queue-index in
    let more = take_more c.args.queues.now i c.queue-item.result c.loop-queue-test.true in
    let is : c.max-longest.result ≡ max (length c.queue-item.result) c.loop-queue.longest = search rules in
    rw (more, ← c.queue-item.is) (is ∙ ap (max (length c.queue-item.result)) c.loop-queue.invariant ∙ sym (longest_push (take i c.args.queues.now) c.queue-item.result))
