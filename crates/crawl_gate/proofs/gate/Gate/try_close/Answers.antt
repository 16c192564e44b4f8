use Rattle.crawl_gate.proofs.Prelude.{◌≡◌, true, rules, refl, ap, ◌∙◌, arith, CloseLost, closed_at, knows_closed, view_not_closing}
use Rattle.crawl_gate.proofs.Keeping.{shuts}
use Rattle.crawl_gate.proofs.Knowing.{knows_closed-last}
use Rattle.crawl_gate.proofs.gate.Gate.try_close.Goals as goal

pub compare_exchange-word-requires : goal.compare_exchange-word-requires
compare_exchange-word-requires c = (search rules, search rules, shuts _ _ _ _ (search rules))

-- if the exchange found the gate closed, the seat has read the closed word
met : (c : goal.Then-state) → c.compare_exchange-word.new.seat.me.0 ≡ view_not_closing c.pass.inside.seat.me.0 (closed_at 0)
met c = grind arith

knows : (c : goal.Then-state) → knows_closed c.compare_exchange-word.new.seat.me.0 ≡ true
knows c = ap knows_closed (met c) ∙ knows_closed-last c.pass.inside.seat.me.0 CloseLost (closed_at 0) refl

pub invariant_of-result-then-state : goal.invariant_of-result-then-state
invariant_of-result-then-state c = grind (arith, knows, met)

pub returns-then-state-clause-reported : goal.returns-then-state-clause-reported
returns-then-state-clause-reported c = knows c
