use Rattle.crawl_session.proofs.Prelude.{Appends, log_text, take}
use Rattle.crawl_session.specs.Seen.{seen_lines}
use Rattle.crawl_session.proofs.compact.write_counts.Given as goal

abbrev pub invariant-loop-queue : goal.invariant-loop-queue
invariant-loop-queue g l = Appends (g.O.Write.contents l.initial.out) (g.O.Write.contents l.out) (log_text (seen_lines 0 (take l.queue l.counts)))
