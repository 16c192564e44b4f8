use Rattle.shown_text.proofs.Prelude.{◌∙◌, ◌++◌, IsUtf8, ap, subst, sym, false≢true, shown_in}
use Rattle.shown_text.proofs.Visible.{shown_utf8}
use Rattle.shown_text.proofs.escape.shown_in.Goals as goal

pub unreachable-requires : goal.unreachable-requires
unreachable-requires c =
    let shown = shown_in c.args.how c.args.text.now in
    false≢true (c.in-Err.ensures.succeeds
    (subst IsUtf8 (sym (c.in_ok-put_text.ensures ∙ ap (λ t. t ++ shown) c.new-bytes.ensures.items)) (shown_utf8 c.args.how c.args.text.now c.utf8.text)))
