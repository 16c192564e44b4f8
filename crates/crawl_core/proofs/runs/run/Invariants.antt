use Rattle.std.proofs.Common.{take}
use Rattle.crawl_core.proofs.RunSteps.{RunTo}
use Rattle.crawl_core.proofs.runs.run.Given as goal

abbrev pub invariant-loop-event : goal.invariant-loop-event
invariant-loop-event l = RunTo l.workers l.max (take l.event-index l.events) l.replies.items l.core
