use Rattle.std.proofs.lemmas.Result.{err_from_is_err_and}
use Rattle.crawl_session.proofs.Prelude.{take, ap, sym, ◌++◌, ◌∷◌, [], ◌∙◌, subst, List, ℕ, Option, option_to_list}
use Rattle.std.proofs.lemmas.List.{take_more}
use Rattle.crawl_session.specs.Rebuilding.{IsFull, Writes, each_url, waiting_url}
use Rattle.crawl_session.proofs.Rebuilding.{full_queue, turn_more}
use Rattle.crawl_session.proofs.rebuild.write_turn.Goals as goal

pub loop-queue-preserved : goal.loop-queue-preserved
loop-queue-preserved g c =
    let written = g.O.Write.contents in
    let i = c.loop-queue.queue-index in
    let mid = c.loop-queue.session in
    let more = take_more c.args.queues.now i c.queue-item.result c.loop-queue-test.true in
    let here =
    subst (λ (o : Option (List ℕ)). Writes (each_url (waiting_url mid.settings) (option_to_list o)) mid (written c.loop-queue.out) (written c.waiting_at.new.out) c.in_ok-more.more c.waiting_at.new.session) c.get.ensures c.in_ok-more.ensures.written in
    rw (c.in_ok-left_out.ensures, more, ← c.queue-item.is)
    (turn_more waiting_url c.args.position (take i c.args.queues.now) c.queue-item.result c.args.session.now mid c.waiting_at.new.session (written c.args.out.now) (written c.loop-queue.out) (written c.waiting_at.new.out) c.loop-queue.left_out c.in_ok-more.more c.loop-queue.invariant here)

pub returns-in_err-more-clause-full : goal.returns-in_err-more-clause-full
returns-in_err-more-clause-full g c =
    let written = g.O.Write.contents in
    let i = c.loop-queue.queue-index in
    let mid = c.loop-queue.session in
    let queues = c.args.queues.now in
    let more = take_more queues i c.queue-item.result c.loop-queue-test.true ∙ ap (λ (q : List (List ℕ)). take i queues ++ q ∷ []) (sym c.queue-item.is) in
    let r = c.from_residual in
    let same = err_from_is_err_and r.result r.ensures.1 in
    rw (same.1, same.2)
    (λ is. full_queue waiting_url c.args.position queues i c.queue-item.result c.args.session.now mid (written c.args.out.now) (written c.loop-queue.out) c.loop-queue.left_out more c.loop-queue.invariant
    (subst (λ (o : Option (List ℕ)). IsFull (each_url (waiting_url mid.settings) (option_to_list o)) mid) c.get.ensures (c.in_err-more.ensures.full is)))
