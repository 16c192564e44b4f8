use Rattle.crawl_core.proofs.Prelude.{◌≡◌, false, true, slice_get, unwrap_or, sym, subst, ◌∙◌, arith, option_map, lets_in, Kept, KeptQueue, slice_get_within}
use Rattle.crawl_core.proofs.Handing.{hands, hands_counts, stays_idle}
use Rattle.crawl_core.proofs.machine.Core.hand_over.Goals as goal

pub returns-then-not-is_fetching-clause-hands : goal.returns-then-not-is_fetching-clause-hands
returns-then-not-is_fetching-clause-hands c = stays_idle c.args.self.now c.args.queue c.args.sender (sym c.is_fetching.ensures ∙ c.if-not-is_fetching.true)

pub finish-requires : goal.finish-requires
finish-requires c = grind (arith, slice_get_within)

pub invariant_of-self-2 : goal.invariant_of-self-2
invariant_of-self-2 c =
    let busy = subst (λ (k : Kept). unwrap_or (option_map (λ (q : KeptQueue). q.busy) (slice_get k.queues c.args.queue)) false ≡ true) (sym c.self.view_is) (sym c.is_fetching.ensures ∙ c.if-not-is_fetching.false) in
    let lets = subst (λ (k : Kept). lets_in k.gate c.args.sender ≡ true) (sym c.self.view_is) (sym c.lets_in.ensures ∙ c.if-not-lets_in.false) in
    rw (c.in_ok-enter.ensures.holders, c.in_ok-enter.ensures.remembered) (hands_counts _ c.self.inside.count c.args.queue c.args.sender c.word-word.result c.finish.new.self c.self.invariant busy lets c.finish.ensures)

pub returns-clause-hands : goal.returns-clause-hands
returns-clause-hands c =
    let busy = subst (λ (k : Kept). unwrap_or (option_map (λ (q : KeptQueue). q.busy) (slice_get k.queues c.args.queue)) false ≡ true) (sym c.self.view_is) (sym c.is_fetching.ensures ∙ c.if-not-is_fetching.false) in
    let lets = subst (λ (k : Kept). lets_in k.gate c.args.sender ≡ true) (sym c.self.view_is) (sym c.lets_in.ensures ∙ c.if-not-lets_in.false) in
    rw (← c.self.view_is, c.in_ok-enter.ensures.holders, c.in_ok-enter.ensures.remembered) (hands _ c.self.inside.count c.args.queue c.args.sender c.word-word.result c.finish.new.self c.self.invariant busy lets c.finish.ensures)
