use Rattle.saved_web.specs.Ahead.{IsChunk}
use Rattle.saved_web.proofs.ahead.chunk.Chunk.add_block.Given as goal

abbrev pub invariant-loop-index : goal.invariant-loop-index
invariant-loop-index l = IsChunk l.web l.self
