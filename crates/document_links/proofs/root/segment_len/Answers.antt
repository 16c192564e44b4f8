use Rattle.document_links.proofs.Prelude.{◌∙◌, rules, tests, count_from_yields_List, YieldsList-from_take_while, length-prefix_len, in_segment}
use Rattle.std.proofs.lemmas.Iterator.{YieldsList-from_slice}
use Rattle.document_links.proofs.root.segment_len.Goals as goal

pub returns-clause-value : goal.returns-clause-value
returns-clause-value c =
    let path = c.args.path.now in
    count_from_yields_List c.take_while.result _ c.count.ensures.ran (YieldsList-from_take_while _ in_segment (YieldsList-from_slice path (cc)) c.take_while.ensures.closure c.take_while.ensures.done (λ x b q k. search (rules, tests))) ∙ length-prefix_len in_segment path
