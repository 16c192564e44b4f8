use Rattle.std.proofs.Common.{Bor, rules}
use Rattle.saved_web.proofs.AheadLinks.{chunk_there, known_there}
use Rattle.saved_web.proofs.JoinedChunks.{at_some}
use Rattle.saved_web.specs.Ahead.{IsChunk}
use Rattle.saved_web.specs.declared.ahead.chunk.Chunk.{Chunk}
use Rattle.saved_web.proofs.ahead.Ahead.page.Goals as goal

pub returns : goal.returns
returns c =
    let web = c.args.self.now in
    let there = chunk_there web c.deref.result.now c.chunk_of.result c.get.result c.get.ensures.lookup (search rules) in
    let own : IsChunk web c.in_ok-chunk.chunk.now = at_some (λ (chunk : Bor Chunk). IsChunk web chunk.now) c.in_ok-chunk.was there in
    known_there web c.args.url.now c.in_ok-index.index c.page.result (search rules) (c.page.ensures web own)
