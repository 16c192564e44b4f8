use Rattle.crawl_certificate.proofs.Prelude.{IfOk-at_ok, allows, AreMarks}
use Rattle.crawl_certificate.proofs.Together.{halves_together}
use Rattle.crawl_certificate.proofs.threads.+fn-marks_by-of_back+fn-marks_by-of_front+marks_by.Goals as goal

pub returns : goal.returns
returns g t c =
    let allowed = allows c.args.filter.now in
    let front = c.split_at.result.0 in
    let back = c.split_at.result.1 in
    let first = IfOk-at_ok (AreMarks allowed front.accepted.now front.results.now) c.in_ok-first.was c.join-first.ensures.first in
    let second = IfOk-at_ok (AreMarks allowed back.accepted.now back.results.now) c.in_ok-second.was c.join-first.ensures.second in
    let half = c.split_at.ensures in
    halves_together allowed c.args.chunk.accepted.now front.accepted.now back.accepted.now _ half.accepted.0 half.accepted.1 c.entries.ensures.entries
    front.results.now back.results.now c.args.chunk.results.now half.results c.in_ok-first.first c.in_ok-second.second c.together.result first second c.together.ensures
