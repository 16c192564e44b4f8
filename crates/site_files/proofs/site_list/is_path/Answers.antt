use Rattle.std.proofs.Common.{rules, tests, not, ap, ◌∙◌}
use Rattle.std.proofs.lemmas.Iterator.Search.{any_from_yields_List}
use Rattle.std.proofs.lemmas.Iterator.Splits.{YieldsList-from_slice_split}
use Rattle.site_files.specs.SiteList.{is_bad_name, is_path}
use Rattle.site_files.proofs.site_list.is_path.Goals as goal

pub returns : goal.returns
returns c =
    ap not
    (any_from_yields_List is_bad_name _ _ _ c.any.ensures.ran
    (YieldsList-from_slice_split _ _ c.as_bytes.result.now c.split.ensures.rest c.split.ensures.done c.split.ensures.closure (λ x b q k. search (rules, tests)))
    (λ x b q k. search (rules, tests)))
    ∙ ap is_path c.as_bytes.ensures.value
