use Rattle.std.proofs.lemmas.Result.{err_from_is_err_and}
use Rattle.crawl_session.proofs.Prelude.{◌<◌, rules}
use Rattle.crawl_session.specs.Rebuilding.{longest, waiting_url}
use Rattle.crawl_session.proofs.Rebuilding.{full_turn, turns_more}
use Rattle.crawl_session.proofs.rebuild.pending_urls.Goals as goal

pub loop-position-preserved : goal.loop-position-preserved
loop-position-preserved g c =
    let written = g.O.Write.contents in
    rw (c.in_ok-left_out.ensures)
    (turns_more waiting_url c.loop-position.position c.args.queues.now c.args.session.now c.loop-position.session c.write_turn.new.session (written c.args.out.now) (written c.loop-position.out) (written c.write_turn.new.out) c.loop-position.left_out c.in_ok-more.more c.loop-position.invariant c.in_ok-more.ensures.written)

pub returns-in_err-more-clause-full : goal.returns-in_err-more-clause-full
returns-in_err-more-clause-full g c =
    let written = g.O.Write.contents in
    let n = c.loop-position.position in
    let below : n < longest c.args.queues.now = search rules in
    let r = c.from_residual in
    let same = err_from_is_err_and r.result r.ensures.1 in
    rw (same.1, same.2) (λ is. full_turn waiting_url n c.args.queues.now c.args.session.now c.loop-position.session (written c.args.out.now) (written c.loop-position.out) c.loop-position.left_out below c.loop-position.invariant (c.in_err-more.ensures.full is))
