use Rattle.document_links.proofs.Prelude.{◌∙◌, rules, tests, count_from_yields_List, YieldsList-from_take_while, take_rest, length-prefix_len, is_c0_control_or_space}
use Rattle.std.proofs.lemmas.Iterator.{YieldsList-from_slice}
use Rattle.document_links.proofs.cleaning.trimmed_start.Goals as goal

pub returns : goal.returns
returns c =
    let text = c.args.text.now in
    let count = count_from_yields_List c.take_while.result c.count-count.result c.count-count.ensures.ran (YieldsList-from_take_while _ is_c0_control_or_space (YieldsList-from_slice text (cc)) c.take_while.ensures.closure c.take_while.ensures.done (λ x b q k. search (rules, tests))) ∙ length-prefix_len is_c0_control_or_space text in
    rw (take_rest, count)
