use Rattle.crawl_gate.proofs.TableSteps.{play_is_step, step_is_of_table}
use Rattle.crawl_gate.proofs.laws.steps_are_those_of_the_table.Goals as goal

pub returns : goal.returns
returns c = record { every = play_is_step; no_other = step_is_of_table }
