use Rattle.crawl_replay.proofs.Prelude.{◌+◌, Ok, ap, ◌∙◌, arith, lines, All-push, IsAddressed, events_of}
use Rattle.crawl_replay.proofs.LineFields.{read_event}
use Rattle.crawl_replay.proofs.script.events_of.Goals as goal

pub loop-line-preserved-in-Continue-branch-2 : goal.loop-line-preserved-in-Continue-branch-2
loop-line-preserved-in-Continue-branch-2 c = record {
  few = omega (arith, c.in-Some.ensures.shorter);
  so_far =
      rw c.in_ok-push.ensures.items
      (read_event c.args.workers c.loop-line.events.items (c.loop-line.number + 1) (lines c.loop-line.rest.now) c.in-Some.line.now (lines c.in-Some.more.now) c.in-Some-said.event (events_of c.args.workers 2 (lines c.args.bytes.now)) c.in-Some.ensures.cut (c.in_ok-said.ensures.exact ∙ ap Ok c.in-Some-said.is) c.loop-line.invariant.so_far);
  addressed =
      rw c.in_ok-push.ensures.items
      (All-push (IsAddressed c.args.workers) c.loop-line.events.items c.in-Some-said.event c.loop-line.invariant.addressed (rw c.in-Some-said.is at c.in_ok-said.ensures.addressed));
}
