use Rattle.crawl_gate.proofs.Histories.{keeps_invariant}
use Rattle.crawl_gate.proofs.OneStep.{goes}
use Rattle.crawl_gate.proofs.laws.one_step.Goals as goal

pub returns : goal.returns
returns c = record { keeps = keeps_invariant; goes = goes }
