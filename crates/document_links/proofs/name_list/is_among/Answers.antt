use Rattle.document_links.proofs.Prelude.{arith, rules, tests}
use Rattle.std.proofs.lemmas.Iterator.Search.{any_from_yields_List}
use Rattle.std.proofs.lemmas.Iterator.Splits.{YieldsList-from_str_split}
use Rattle.std.specs.Str.{str_eq_ignore_ascii_case}
use Rattle.document_links.proofs.name_list.is_among.Goals as goal

pub returns : goal.returns
returns c =
    any_from_yields_List (str_eq_ignore_ascii_case c.args.name.now) _ _ _ c.any.ensures.ran
    (YieldsList-from_str_split 32 c.args.names.now (omega arith) c.split.ensures.text c.split.ensures.has_more c.split.ensures.pattern) (λ x b q k. search (rules, tests))
