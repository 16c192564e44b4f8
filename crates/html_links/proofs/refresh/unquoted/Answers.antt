use Rattle.std.proofs.Common.{arith}
use Rattle.html_links.proofs.refresh.unquoted.Goals as goal
use Rattle.html_links.proofs.Sources.{front_all}

pub returns-in-None : goal.returns-in-None
returns-in-None c = grind (arith, front_all)
