use Rattle.std.proofs.Common.{sym, ap, ◌∙◌, map, Ok, arith}
use Rattle.crawl_keys.proofs.FilterLemmas.{position-map}
use Rattle.crawl_keys.proofs.InOrderLemmas.{allows-in_order, Contains-kept}
use Rattle.crawl_keys.proofs.filter.Filter.new.Goals as goal

pub returns-in-Some-clause-exact : goal.returns-in-Some-clause-exact
returns-in-Some-clause-exact c = grind (arith, position-map)

pub returns-clause-exact : goal.returns-clause-exact
returns-clause-exact c = grind (arith, position-map)

pub returns-clause-keeps : goal.returns-clause-keeps
returns-clause-keeps c =
    Contains-kept (map (λ suffix. suffix.now) c.args.suffixes.now) c.in_ok-shared.shared.value (c.in_ok-kept.ensures ∙ ap Ok (sym c.in_ok-shared.ensures.ok))

pub returns-clause-alike : goal.returns-clause-alike
returns-clause-alike c = grind (arith, allows-in_order)
