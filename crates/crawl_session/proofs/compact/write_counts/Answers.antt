use Rattle.crawl_session.proofs.Prelude.{◌<◌, ap, subst, ◌∙◌, unwrap_or-slice_get, Appends, log_text}
use Rattle.std.specs.Prelude.{unwrap_or}
use Rattle.crawl_session.proofs.SeenLines.{line_of, written_more}
use Rattle.crawl_session.proofs.compact.write_counts.Goals as goal

pub loop-queue-preserved : goal.loop-queue-preserved
loop-queue-preserved g c =
    let written = g.O.Write.contents in
    let counts = c.args.counts.now in
    let queue = c.loop-queue.queue in
    let inside = subst (λ n. queue < n) c.in_ok-queues.ensures c.loop-queue-test.true in
    let number = c.unwrap_or-count.ensures ∙ ap (λ o. unwrap_or o 0) c.get.ensures ∙ unwrap_or-slice_get counts queue 0 in
    let line = subst (λ n. Appends (written c.loop-queue.out) (written c.write_count.new.out) (log_text (line_of queue n))) number c.in_ok-write_count.ensures in
    written_more (written c.args.out.now) (written c.loop-queue.out) (written c.write_count.new.out) counts queue inside c.loop-queue.invariant line
