use Rattle.crawl_session.proofs.Prelude.{◌≡◌, ◌-◌, ◌<◌, ◌++◌, length, take, drop, string_bytes, sym, ap, subst, ◌∙◌, arith, lines, take_rest, held_limit, IsUnfinished, AnswersWhole, ServesAll}
use Rattle.crawl_session.proofs.Turns.{answers_none, answers_some}
use Rattle.crawl_session.proofs.serving.answer_whole.Goals as goal

pub returns-then-whole-eq0 : goal.returns-then-whole-eq0
returns-then-whole-eq0 c tail holds =
    let session = c.args.session.now in
    let unfinished : IsUnfinished c.args.bytes.now = subst (λ n. IsUnfinished (drop n c.args.bytes.now)) c.if-whole-eq0.true c.whole_len-whole.ensures.rest in
    subst (λ t. AnswersWhole session tail c.args.bytes.now t c.hold.new.held.items session) (sym c.new.ensures.bytes)
    (answers_none session tail c.args.bytes.now c.args.held.now.items c.hold.new.held.items holds unfinished c.in_ok-hold.ensures)

pub returns : goal.returns
returns c tail holds =
    let whole = c.whole_len-whole.result in
    let held = c.args.held.now.items in
    let some : 0 < whole = omega arith in
    let same : c.deref.result.now ≡ held ++ take whole c.args.bytes.now = c.deref.ensures.value ∙ c.in_ok-extend_from_slice.ensures.items in
    let serves = subst (λ b. ServesAll c.args.session.now (lines b) (string_bytes c.in_ok-answers.answers) c.answers_to.new.session) same c.in_ok-answers.ensures in
    let is : c.hold-2.new.held.items ≡ take held_limit (drop whole c.args.bytes.now) =
    c.in_ok-hold-2.ensures ∙ ap (λ h. take held_limit (h ++ take (length c.args.bytes.now - whole) (drop whole c.args.bytes.now))) c.clear.ensures.items ∙ ap (take held_limit) (take_rest c.args.bytes.now whole) in
    answers_some c.args.session.now c.answers_to.new.session tail c.args.bytes.now (string_bytes c.in_ok-answers.answers) held c.hold-2.new.held.items whole holds
    (c.whole_len-whole.ensures.whole some) c.whole_len-whole.ensures.rest serves is
