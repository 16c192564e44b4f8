use Rattle.page_anchors.proofs.Prelude.{◌≡◌, ◌++◌, take, pointed}
use Rattle.page_anchors.proofs.ids.Ids.push_all.Given as goal

abbrev pub invariant-loop-id : goal.invariant-loop-id
invariant-loop-id l = l.self ≡ l.fn.self ++ pointed (take l.id-index l.ids)
