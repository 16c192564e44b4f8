use Rattle.crawl_session.proofs.Prelude.{take, string_bytes, subst, Appends, Consumes, lines, ServesAll}
use Rattle.crawl_session.proofs.Turns.{serves_tail}
use Rattle.crawl_session.proofs.serving.turn.Goals as goal

pub returns-then-count-eq0-clause-ends : goal.returns-then-count-eq0-clause-ends
returns-then-count-eq0-clause-ends g c ended tail holds =
    let old = g.I.Read.remaining c.args.input.now in
    let new = g.I.Read.remaining c.read_some.new.input in
    let text = string_bytes c.in_ok-answers.answers in
    let served = subst (λ b. ServesAll c.args.session.now (lines b) text c.answers_to.new.session) c.deref.ensures.value c.in_ok-answers.ensures in
    record {
      text = text;
      at_end = (subst (λ n. Consumes old new (take n c.read_some.new.buffer)) c.if-count-eq0.true c.in_ok-count.ensures.bytes, c.in_ok-count.ensures.end c.if-count-eq0.true);
      serves = serves_tail c.args.session.now c.args.held.now.items tail text c.answers_to.new.session holds served;
      written = subst (Appends (g.O.Write.contents c.args.out.now) (g.O.Write.contents c.write_out.new.out)) c.deref-then-count-eq0.ensures c.in_ok-write_out.ensures;
    }

pub returns-clause-turns : goal.returns-clause-turns
returns-clause-turns g c going tail holds =
    let count = c.in_ok-count.count in
    let text = string_bytes c.in_ok-answers-2.answers in
    record {
      bytes = take count c.read_some.new.buffer;
      text = text;
      read = c.in_ok-count.ensures.bytes;
      answers_whole = c.in_ok-answers-2.ensures tail holds;
      written = subst (Appends (g.O.Write.contents c.args.out.now) (g.O.Write.contents c.write_out-2.new.out)) c.deref-2.ensures c.in_ok-write_out-2.ensures;
    }
