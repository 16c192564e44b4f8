use Rattle.site_check.proofs.Prelude.{◌≡◌, ◌++◌, drop, map, link_text, once, once_next, option_map, text_of}
use Rattle.site_check.proofs.invalid.distinct_texts.Given as goal

abbrev pub invariant-loop-index : goal.invariant-loop-index
invariant-loop-index l = map text_of l.texts.items ++ once_next (option_map link_text l.last) (map link_text (drop l.index l.links)) ≡ once (map link_text l.links)
