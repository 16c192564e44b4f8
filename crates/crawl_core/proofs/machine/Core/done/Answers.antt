use Rattle.std.proofs.Common.{sym, ◌∙◌, ap, Some}
use Rattle.crawl_core.proofs.Counts.{busy_counts, done_fits}
use Rattle.crawl_core.proofs.machine.Core.done.Goals as goal

pub overflow_sub-self : goal.overflow_sub-self
overflow_sub-self c = busy_counts c.args.queue c.self.invariant (sym c.is_busy.ensures ∙ c.in-Some.is ∙ ap Some c.if-not-busy.false)

pub invariant_of-self : goal.invariant_of-self
invariant_of-self c = (done_fits c.args.queue c.finish.new.self c.self.invariant (sym c.is_busy.ensures ∙ c.in-Some.is ∙ ap Some c.if-not-busy.false) c.finish.ensures).counts

pub returns : goal.returns
returns c = rw (← c.self.view_is) (done_fits c.args.queue c.finish.new.self c.self.invariant (sym c.is_busy.ensures ∙ c.in-Some.is ∙ ap Some c.if-not-busy.false) c.finish.ensures).moves
