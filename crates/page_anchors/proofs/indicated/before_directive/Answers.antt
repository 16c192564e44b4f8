use Rattle.std.proofs.lemmas.Grind.{common_steps}
use Rattle.page_anchors.proofs.Directive.{directive_more, whole_rest}
use Rattle.page_anchors.proofs.indicated.before_directive.Goals as goal
use Rattle.std.proofs.Common.{arith}

pub loop-index-preserved : goal.loop-index-preserved
loop-index-preserved c = grind (arith, common_steps, directive_more, whole_rest)
