use Rattle.hash_index.proofs.Prelude.{take, AreKept, with_slots}
use Rattle.hash_index.proofs.index.HashIndex.grow.Given as goal

abbrev pub invariant-loop-index : goal.invariant-loop-index
invariant-loop-index g l =
    AreKept g.L.TextList.hash (g.L.TextList.texts l.list) l.self × AreKept g.L.TextList.hash (take l.index (g.L.TextList.texts l.list)) (with_slots l.self l.slots)
