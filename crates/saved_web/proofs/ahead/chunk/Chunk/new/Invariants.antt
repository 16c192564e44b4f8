use Rattle.saved_web.specs.Ahead.{IsChunk}
use Rattle.saved_web.proofs.ahead.chunk.Chunk.new.Given as goal

abbrev pub invariant-loop-round : goal.invariant-loop-round
invariant-loop-round l = IsChunk l.web l.chunk
