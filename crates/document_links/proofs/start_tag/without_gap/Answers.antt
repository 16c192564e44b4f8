use Rattle.document_links.proofs.Prelude.{◌∙◌, rules, tests, reverse, count_from_yields_List, YieldsList-from_take_while, length-prefix_len}
use Rattle.std.proofs.lemmas.Iterator.Adapters.{YieldsList-from_rev_slice}
use Rattle.document_links.specs.Markup.{is_gap}
use Rattle.document_links.proofs.start_tag.without_gap.Goals as goal

pub returns : goal.returns
returns c =
    let bytes = c.args.bytes.now in
    let count = count_from_yields_List c.take_while.result c.count-count.result c.count-count.ensures.ran (YieldsList-from_take_while _ is_gap (YieldsList-from_rev_slice bytes (cc)) c.take_while.ensures.closure c.take_while.ensures.done (λ x b q k. search (rules, tests))) ∙ length-prefix_len is_gap (reverse bytes) in
    rw count
