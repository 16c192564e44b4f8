use Rattle.page_anchors.proofs.Prelude.{◌≡◌, take, pointed}
use Rattle.page_anchors.proofs.ids.Ids.pointers.Given as goal

abbrev pub invariant-loop-index : goal.invariant-loop-index
invariant-loop-index l = pointed l.ids.items ≡ take l.index l.self
