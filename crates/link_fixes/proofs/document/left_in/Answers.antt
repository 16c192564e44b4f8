use Rattle.link_fixes.proofs.Leading.{left_found}
use Rattle.link_fixes.proofs.document.left_in.Goals as goal

pub returns : goal.returns
returns c = left_found c.left_of.result c.args.input c.args.old.now.links c.args.new.now _ c.in_ok-after.ensures.links c.left_of.ensures
