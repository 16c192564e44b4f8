use Rattle.crawl_session.proofs.Prelude.{[], ◌∷◌, ◌++◌, string_bytes, sym, ap, subst, ◌∙◌, append_assoc, lines, ServesAll}
use Rattle.crawl_session.proofs.Lines.{serves_more}
use Rattle.crawl_session.proofs.serving.answers_to.Goals as goal

pub loop-line-preserved : goal.loop-line-preserved
loop-line-preserved c =
    let (front, split, serves) = c.loop-line.invariant in
    let (added, text_is, one) = c.in_ok-answer_line.ensures in
    let line = c.in-Some.line.now in (
      front ++ line ∷ [],
      split ∙ ap (λ l. front ++ l) c.in-Some.ensures.cut ∙ sym (append_assoc front (line ∷ []) (lines c.in-Some.more.now)),
      subst (λ t. ServesAll c.args.session.now (front ++ line ∷ []) t c.answer_line.new.session) (sym text_is)
          (serves_more c.args.session.now front (string_bytes c.loop-line.answers) c.loop-line.session (line ∷ []) added c.answer_line.new.session serves one),
    )
