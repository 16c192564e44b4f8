use Rattle.crawl_core.proofs.Prelude.{take, take_more}
use Rattle.crawl_core.proofs.RunSteps.{run_more}
use Rattle.crawl_core.proofs.runs.run.Goals as goal

pub loop-event-preserved : goal.loop-event-preserved
loop-event-preserved c =
    let more = take_more c.args.events.now c.loop-event.event-index c.event-item.result c.loop-event-test.true in
    rw (c.in_ok-push.ensures.items, more, ← c.event-item.is)
    (run_more c.args.workers c.args.max (take c.loop-event.event-index c.args.events.now) c.loop-event.replies.items c.loop-event.core c.step.new.self c.event-item.result c.in_ok-step.field-0 c.loop-event.invariant c.in_ok-step.ensures.step)
