use Rattle.document_links.proofs.Prelude.{◌∙◌, rules, tests, reverse, count_from_yields_List, YieldsList-from_take_while, length-prefix_len, take_rest}
use Rattle.std.proofs.lemmas.Iterator.Adapters.{YieldsList-from_rev_slice}
use Rattle.document_links.specs.Markup.{in_name}
use Rattle.document_links.proofs.start_tag.last_name.Goals as goal

pub returns : goal.returns
returns c =
    let bytes = c.args.bytes.now in
    let count = count_from_yields_List c.take_while.result c.count-count.result c.count-count.ensures.ran (YieldsList-from_take_while _ in_name (YieldsList-from_rev_slice bytes (cc)) c.take_while.ensures.closure c.take_while.ensures.done (λ x b q k. search (rules, tests))) ∙ length-prefix_len in_name (reverse bytes) in
    rw (take_rest, count)
