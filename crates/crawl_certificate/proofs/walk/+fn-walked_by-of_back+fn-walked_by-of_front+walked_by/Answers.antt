use Rattle.crawl_certificate.proofs.Prelude.{IfSome, IfOk-at_ok, IsWalk}
use Rattle.crawl_certificate.proofs.Walks.{both_least, parts_together}
use Rattle.crawl_certificate.proofs.walk.+fn-walked_by-of_back+fn-walked_by-of_front+walked_by.Goals as goal

pub returns : goal.returns
returns g t c =
    let chunk = c.args.chunk in
    let low = c.split_at.result.0 in
    let high = c.split_at.result.1 in
    let parted = c.split_at.ensures in
    let first = IfOk-at_ok (λ found. IfSome found (λ m. IsWalk low.accepted.now low.first low.results.now m.items)) c.in_ok-first.was c.join-first.ensures.first in
    let second = IfOk-at_ok (λ found. IfSome found (λ m. IsWalk high.accepted.now high.first high.results.now m.items)) c.in_ok-second.was c.join-first.ensures.second in
    both_least (IsWalk low.accepted.now low.first low.results.now) (IsWalk high.accepted.now high.first high.results.now) (IsWalk chunk.accepted.now chunk.first chunk.results.now)
    (parts_together chunk.accepted.now low.accepted.now high.accepted.now parted.accepted.0 parted.accepted.1 chunk.first low.first high.first parted.front low.results.now high.results.now chunk.results.now parted.results parted.back)
    c.in_ok-first.first c.in_ok-second.second c.together.result first second c.together.ensures
