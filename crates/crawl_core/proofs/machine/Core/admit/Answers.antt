use Rattle.std.proofs.Common.{sym, ◌∙◌}
use Rattle.crawl_core.proofs.Counts.{admit_counts}
use Rattle.crawl_core.proofs.machine.Core.admit.Goals as goal

pub invariant_of-self-2 : goal.invariant_of-self-2
invariant_of-self-2 c = rw c.remove.ensures.keys (admit_counts c.args.queue c.args.sender c.args.url.now c.accept.new.self c.self.invariant (sym c.has.ensures ∙ c.if-not-has.false) (sym c.contains.ensures ∙ c.if-not-contains.false) (rw c.in-Some.is at c.in_ok-number.ensures.accepted))
