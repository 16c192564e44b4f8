use Rattle.saved_web.proofs.Prelude.{subst, lines, AreReadAfter}
use Rattle.saved_web.proofs.JoinedChunks.{both_read, at_some}
use Rattle.saved_web.proofs.threads.+fn-pages_of_chunk-of_back+fn-pages_of_chunk-of_front+pages_of_chunk.Goals as goal

pub returns : goal.returns
returns g t c =
    let chunk = c.args.chunk in
    let front = c.halves.result.0 in
    let back = c.halves.result.1 in
    let first = at_some (AreReadAfter front.second (lines front.bytes.now)) c.in_ok-first.was c.join-first.ensures.first in
    let second = at_some (AreReadAfter back.second (lines back.bytes.now)) c.in_ok-second.was c.join-first.ensures.second in
    both_read chunk.second (lines chunk.bytes.now) (lines front.bytes.now) (lines back.bytes.now) c.in_ok-first.first c.in_ok-second.second c.and.result c.halves.ensures.lines
    (subst (λ version. AreReadAfter version (lines front.bytes.now) c.in_ok-first.first) c.halves.ensures.second.0 first)
    (subst (λ version. AreReadAfter version (lines back.bytes.now) c.in_ok-second.second) c.halves.ensures.second.1 second)
    c.and.ensures.both c.and.ensures.apart
