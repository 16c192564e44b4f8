use Rattle.document_links.proofs.Prelude.{◌≡◌, ◌∙◌, ◌+◌, ◌-◌, ℕ, List, length, count_by, drop, ap, arith, length-drop, take_all, begins_character, is_lf, last_line}
use Rattle.document_links.proofs.After.{after_feed, after_none, same_point}
use Rattle.document_links.proofs.points.following.Goals as goal

pub returns-in-Some : goal.returns-in-Some
returns-in-Some c = λ front e.
    let line : c.args.point.line ≡ count_by is_lf front + 1 = ap (λ p. p.line) e in
    let feeds : c.line_feeds.result ≡ count_by is_lf c.args.bytes.now = c.line_feeds.ensures.count in
    let rest : List ℕ = drop (c.in-Some.end + 1) c.args.bytes.now in
    let following : c.characters.result ≡ count_by begins_character rest =
    c.characters.ensures.count ∙ ap (count_by begins_character) (take_all (length c.args.bytes.now - (c.in-Some.end + 1)) rest (omega (arith, length-drop (c.in-Some.end + 1) c.args.bytes.now))) in
    same_point (omega (arith, line, feeds)) (omega (arith, following))
    ∙ after_feed front c.args.bytes.now c.in-Some.end c.in-Some.ensures.0 c.in-Some.ensures.1

pub returns-in-None : goal.returns-in-None
returns-in-None c = λ front e.
    let line : c.args.point.line ≡ count_by is_lf front + 1 = ap (λ p. p.line) e in
    let column : c.args.point.column ≡ count_by begins_character (last_line front) + 1 = ap (λ p. p.column) e in
    let all : c.characters-in-None.result ≡ count_by begins_character c.args.bytes.now = c.characters-in-None.ensures.count in
    same_point line (omega (arith, column, all))
    ∙ after_none front c.args.bytes.now c.in-None.ensures
