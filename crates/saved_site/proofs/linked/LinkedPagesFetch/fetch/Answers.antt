use Rattle.std.proofs.Common.{arith}
use Rattle.saved_site.proofs.Threads.{at_with}
use Rattle.saved_site.proofs.linked.LinkedPagesFetch.fetch.Goals as goal

pub returns-in-Some-clause-meaning : goal.returns-in-Some-clause-meaning
returns-in-Some-clause-meaning c = grind (arith, at_with)

pub returns-in-None-clause-meaning : goal.returns-in-None-clause-meaning
returns-in-None-clause-meaning c = grind (arith, at_with)
