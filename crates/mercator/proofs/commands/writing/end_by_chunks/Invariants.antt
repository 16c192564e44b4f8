use Rattle.mercator.proofs.Prelude.{take, Appends, joined}
use Rattle.mercator.proofs.commands.writing.end_by_chunks.Given as goal

abbrev pub invariant-loop-chunk : goal.invariant-loop-chunk
invariant-loop-chunk g l = Appends (g.O.Write.contents l.initial.out) (g.O.Write.contents l.out) (joined (take l.chunk-index l.chunks))
