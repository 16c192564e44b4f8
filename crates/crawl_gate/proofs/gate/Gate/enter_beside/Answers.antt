use Rattle.crawl_gate.proofs.Trying.{lost_of_holding, one_more_lost_holding}
use Rattle.crawl_gate.proofs.gate.Gate.enter_beside.Goals as goal

pub try_enter_beside-requires-clause-held : goal.try_enter_beside-requires-clause-held
try_enter_beside-requires-clause-held g c = (lost_of_holding _ _ _ _ _ c.loop.invariant.2 c.requires.held c.requires.pass).0

pub try_enter_beside-requires-clause-pass : goal.try_enter_beside-requires-clause-pass
try_enter_beside-requires-clause-pass g c = (lost_of_holding _ _ _ _ _ c.loop.invariant.2 c.requires.held c.requires.pass).1

pub loop-preserved : goal.loop-preserved
loop-preserved g c = (tt, tt, one_more_lost_holding _ _ _ _ _ _ c.loop.invariant.2 c.in-Lost.ensures.words)
