use Rattle.site_check.proofs.Prelude.{◌∙◌, arith, sym}
use Rattle.site_check.proofs.indexed.are_enough.Goals as goal

pub returns : goal.returns
returns c = λ is. (omega arith, sym c.rises.ensures ∙ is)
