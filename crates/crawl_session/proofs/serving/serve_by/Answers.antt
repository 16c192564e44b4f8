use Rattle.std.proofs.Common.{◌≡◌, true, false, arith, rules}
use Rattle.crawl_session.proofs.Turns.{served_more, served_whole}
use Rattle.crawl_session.proofs.serving.serve_by.Goals as goal

pub returns-then-not-continues : goal.returns-then-not-continues
returns-then-not-continues g c =
    let so_far = c.loop-turn.invariant.so_far in
    let ended : c.in_ok-continues.continues ≡ false = search rules in
    served_whole c.args.session.now (g.I.Read.remaining c.args.input.now) (g.I.Read.remaining c.loop-turn.input) (g.I.Read.remaining c.turn.new.input) (g.O.Write.contents c.args.out.now) (g.O.Write.contents c.loop-turn.out) (g.O.Write.contents c.turn.new.out)
    c.loop-turn.held.items c.loop-turn.session c.turn.new.session so_far (c.in_ok-continues.ensures.ends ended so_far.tail so_far.holds)

pub loop-turn-preserved : goal.loop-turn-preserved
loop-turn-preserved g c =
    let so_far = c.loop-turn.invariant.so_far in
    let goes : c.in_ok-continues.continues ≡ true = search rules in
    record {
      room = omega arith;
      so_far =
          served_more c.args.session.now (g.I.Read.remaining c.args.input.now) (g.I.Read.remaining c.loop-turn.input) (g.I.Read.remaining c.turn.new.input) (g.O.Write.contents c.args.out.now) (g.O.Write.contents c.loop-turn.out) (g.O.Write.contents c.turn.new.out)
          c.loop-turn.held.items c.turn.new.held.items c.loop-turn.session c.turn.new.session so_far (c.in_ok-continues.ensures.turns goes so_far.tail so_far.holds);
    }
