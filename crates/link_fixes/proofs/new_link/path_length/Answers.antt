use Rattle.std.proofs.lemmas.Iterator.{YieldsList-from_slice}
use Rattle.std.proofs.lemmas.Iterator.Consumers.{count_from_yields_List}
use Rattle.std.proofs.lemmas.Iterator.Search.{YieldsList-from_take_while}
use Rattle.std.proofs.lemmas.List.Folds.{length-prefix_len}
use Rattle.link_fixes.proofs.Prelude.{◌∙◌, rules, tests, is_path}
use Rattle.link_fixes.proofs.new_link.path_length.Goals as goal

pub returns-clause-value : goal.returns-clause-value
returns-clause-value c =
    let link = c.args.link.now in
    count_from_yields_List c.take_while.result _ c.count.ensures.ran (YieldsList-from_take_while _ is_path (YieldsList-from_slice link (cc)) c.take_while.ensures.closure c.take_while.ensures.done (λ x b q k. search (rules, tests))) ∙ length-prefix_len is_path link
