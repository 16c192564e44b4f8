use Rattle.document_links.proofs.Prelude.{◌≡◌, ◌++◌, not, take, filter, is_tab_or_new_line}
use Rattle.document_links.proofs.cleaning.push_without_breaks.Given as goal

abbrev pub invariant-loop-byte : goal.invariant-loop-byte
invariant-loop-byte l = l.out.items ≡ l.initial.out.items ++ filter (λ b. not (is_tab_or_new_line b)) (take l.byte-index l.text)
