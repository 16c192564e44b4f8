use Rattle.saved_web.proofs.Prelude.{lines, AreFound}
use Rattle.saved_web.proofs.JoinedChunks.{at_some}
use Rattle.saved_web.proofs.LongPages.{both_found}
use Rattle.saved_web.proofs.long.+fn-links_by_threads-of_back+links_by_threads.Goals as goal

pub returns : goal.returns
returns g t c =
    let url = c.args.url.now in
    let front = lines c.in_ok-front.front.now in
    let back = lines c.in_ok-front.back.now in
    let first = at_some (AreFound url front) c.in_ok-first.was c.join-first.ensures.first in
    let second = at_some (AreFound url back) c.in_ok-second.was c.join-first.ensures.second in
    both_found url (lines c.args.bytes.now) front back c.in_ok-first.first c.in_ok-second.second c.and.result
    c.in_ok-front.ensures.lines c.in_ok-front.ensures.none first second c.and.ensures.links c.and.ensures.skipped
