use Rattle.document_links.proofs.Prelude.{◌≡◌, ◌∙◌, ◌++◌, false, not, filter, ap, arith, rules, list_any, take_all}
use Rattle.url.specs.Input.{is_tab_or_new_line, strip_tabs_and_new_lines}
use Rattle.document_links.proofs.Trimming.{none_dropped}
use Rattle.document_links.proofs.cleaning.push_without_breaks.Goals as goal

pub returns-then-not-has_breaks : goal.returns-then-not-has_breaks
unfolding strip_tabs_and_new_lines
returns-then-not-has_breaks c =
    let none : list_any is_tab_or_new_line c.args.text.now ≡ false = search rules in
    rw (none_dropped is_tab_or_new_line c.args.text.now none) (search rules)

pub returns : goal.returns
unfolding strip_tabs_and_new_lines
returns c =
    let text = c.args.text.now in
    c.loop-byte.invariant ∙ ap (λ xs. c.args.out.now.items ++ filter (λ b. not (is_tab_or_new_line b)) xs) (take_all c.loop-byte.byte-index text (omega arith))
