use Rattle.document_links.proofs.Prelude.{◌∙◌, rules, tests, reverse, count_from_yields_List, YieldsList-from_take_while, length-prefix_len, is_c0_control_or_space}
use Rattle.std.proofs.lemmas.Iterator.Adapters.{YieldsList-from_rev_slice}
use Rattle.document_links.proofs.cleaning.trimmed_end.Goals as goal

pub returns : goal.returns
returns c =
    let text = c.args.text.now in
    let count = count_from_yields_List c.take_while.result c.count-count.result c.count-count.ensures.ran (YieldsList-from_take_while _ is_c0_control_or_space (YieldsList-from_rev_slice text (cc)) c.take_while.ensures.closure c.take_while.ensures.done (λ x b q k. search (rules, tests))) ∙ length-prefix_len is_c0_control_or_space (reverse text) in
    rw count
