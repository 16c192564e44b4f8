use Rattle.page_anchors.proofs.Prelude.{◌≡◌, ◌++◌, take, drop, before_directive}
use Rattle.page_anchors.proofs.indicated.before_directive.Given as goal

abbrev pub invariant-loop-index : goal.invariant-loop-index
invariant-loop-index l = before_directive l.text ≡ take l.index l.text ++ before_directive (drop l.index l.text)
