use Rattle.site_check.proofs.Prelude.{common_steps, arith, length-append}
use Rattle.site_check.proofs.LeadsFound.{leads_after}
use Rattle.site_check.proofs.threads.+fn-leads_of_chunk-of_back+fn-leads_of_chunk-of_front+leads_of_chunk.Goals as goal

pub returns : goal.returns
returns g t c = grind (arith, common_steps, length-append, leads_after)
