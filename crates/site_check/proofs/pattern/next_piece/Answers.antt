use Rattle.site_check.proofs.Prelude.{◌∙◌, ◌∷◌, ◌++◌, Some, None, ap, arith, sym, length, length-append}
use Rattle.std.proofs.lemmas.Str.Pattern.{split_parts}
use Rattle.site_check.proofs.Patterns.{last_piece, piece_found, piece_lacks}
use Rattle.site_check.proofs.pattern.next_piece.Goals as goal

pub returns-in-Some-split_once : goal.returns-in-Some-split_once
returns-in-Some-split_once c =
    let piece = c.in-Some.piece in
    let following = c.in-Some.following in
    let more = c.in-Some-split_once.more in
    let parts = split_parts 42 c.args.pattern.now (Some (piece, following)) c.in-Some.ensures.cases (omega arith) in
    let cut = c.in-Some-split_once.ensures.cases in (
      piece_found c.args.pattern.now piece.now following.now c.args.text.now more.now cut.0 parts.0 parts.1 (omega (arith, cut.5, cut.7)) cut.2.0 (cut.2.1.split ∙ ap (λ r. piece.now ++ r) (sym cut.4)),
      omega (arith, ap length parts.0, length-append piece.now (42 ∷ following.now)),
    )

pub returns-in-None-split_once : goal.returns-in-None-split_once
returns-in-None-split_once c =
    let piece = c.in-Some.piece in
    let following = c.in-Some.following in
    let parts = split_parts 42 c.args.pattern.now (Some (piece, following)) c.in-Some.ensures.cases (omega arith) in
    piece_lacks c.args.pattern.now piece.now following.now c.args.text.now parts.0 parts.1 c.in-None-split_once.ensures.cases

pub returns-in-None : goal.returns-in-None
returns-in-None c = last_piece c.args.pattern.now c.args.text.now (split_parts 42 c.args.pattern.now None c.in-None.ensures.cases (omega arith))
