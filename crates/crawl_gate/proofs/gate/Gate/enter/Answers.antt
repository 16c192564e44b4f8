use native.Mathlib.Omega.{arith}
use Rattle.crawl_gate.proofs.Trying.{lost_of, lost_knows, one_more_lost, at_last, not_lost}
use Rattle.crawl_gate.proofs.gate.Gate.enter.Goals as goal

pub try_enter-requires : goal.try_enter-requires
try_enter-requires g c = lost_of _ _ _ c.loop.invariant.2 c.requires

pub loop-preserved : goal.loop-preserved
loop-preserved g c = (tt, tt, one_more_lost _ _ _ c.loop.invariant.2 c.in-Lost.ensures.words)

pub returns-in_default : goal.returns-in_default
returns-in_default g c = grind (arith, not_lost, at_last, lost_knows)
