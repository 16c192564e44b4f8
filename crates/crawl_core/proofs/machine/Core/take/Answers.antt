use Rattle.std.proofs.Common.{sym, ◌∙◌, ap, Some}
use Rattle.crawl_core.proofs.Counts.{take_fits}
use Rattle.crawl_core.proofs.machine.Core.take.Goals as goal

pub invariant_of-self-2 : goal.invariant_of-self-2
invariant_of-self-2 c = (take_fits c.args.queue c.in-Some-take.url c.take.new.self c.self.invariant (sym c.is_busy.ensures ∙ c.in-Some.is ∙ ap Some c.if-busy.false) c.in-Some-take.ensures.oldest c.in-Some-take.ensures.taken).counts

pub returns : goal.returns
returns c = rw (← c.self.view_is) (take_fits c.args.queue c.in-Some-take.url c.take.new.self c.self.invariant (sym c.is_busy.ensures ∙ c.in-Some.is ∙ ap Some c.if-busy.false) c.in-Some-take.ensures.oldest c.in-Some-take.ensures.taken).moves
