use Rattle.document_links.proofs.Prelude.{◌≡◌, ◌∙◌, true, get_or, rules, tests, count_from_yields_List, YieldsList-from_take_while, length-prefix_len}
use Rattle.std.proofs.lemmas.Iterator.{YieldsList-from_slice}
use Rattle.std.specs.Char.{is_ascii_alphabetic}
use Rattle.url.specs.Scheme.{scheme_len, is_scheme_byte}
use Rattle.document_links.proofs.scheme.scheme_len.Goals as goal

pub returns-then-not-is_some_and-clause-value : goal.returns-then-not-is_some_and-clause-value
unfolding scheme_len
returns-then-not-is_some_and-clause-value c = search rules

pub returns-clause-value : goal.returns-clause-value
unfolding scheme_len
returns-clause-value c =
    let letter : is_ascii_alphabetic (get_or c.args.text.now 0 0) ≡ true = search rules in
    rw letter (count_from_yields_List c.take_while.result _ c.count.ensures.ran (YieldsList-from_take_while _ is_scheme_byte (YieldsList-from_slice c.args.text.now (cc)) c.take_while.ensures.closure c.take_while.ensures.done (λ x b q k. search (rules, tests))) ∙ length-prefix_len is_scheme_byte c.args.text.now)
