use Rattle.session_log.proofs.Prelude.{◌≡◌, ◌++◌, ◌∙◌, sym, take-append-drop}
use Rattle.session_log.specs.Compaction.{summing}
use Rattle.session_log.proofs.Rebuilds.{pieces_more}
use Rattle.session_log.proofs.rebuilding.append_pieces.Goals as goal

pub loop-rest-preserved : goal.loop-rest-preserved
loop-rest-preserved g c =
    let written = g.O.Write.contents in
    let rest = c.loop-rest.rest.now in
    let piece = c.split_at.result.0.now in
    let more = c.split_at.result.1.now in
    let front = sym c.split_at.ensures.front in
    let back = sym c.split_at.ensures.back in
    let cut : rest ≡ piece ++ more = sym (take-append-drop c.piece_len.result rest) ∙ (λ i. front i ++ back i) in
    pieces_more c.args.text.now rest piece more (summing c.args.new.now.frame.sum (written c.args.new.now.file)) (summing c.loop-rest.new.frame.sum (written c.loop-rest.new.file)) (summing c.append.new.self.frame.sum (written c.append.new.self.file))
    c.loop-rest.invariant cut c.in_ok-append.ensures.gained c.in_ok-append.ensures.sum
