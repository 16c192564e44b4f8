use Rattle.crawl_replay.proofs.Prelude.{◌≡◌, ◌+◌, ◌≤◌, length, lines, AreAddressed, events_of}
use Rattle.crawl_replay.proofs.LineFields.{following}
use Rattle.crawl_replay.proofs.script.events_of.Given as goal

abbrev pub invariant-loop-line : goal.invariant-loop-line
invariant-loop-line l = record {
  few : l.number + length l.rest ≤ length l.bytes + 1;
  so_far : following l.events.items (events_of l.workers (l.number + 1) (lines l.rest)) ≡ events_of l.workers 2 (lines l.bytes);
  addressed : AreAddressed l.workers l.events.items;
}

abbrev pub decreases-loop-line : goal.decreases-loop-line
decreases-loop-line l = length l.rest
