use Rattle.crawl_keys.proofs.Prelude.{◌≡◌, ◌++◌, codes, subst, sym, rules, arith, IsAfterDots}
use Rattle.crawl_keys.proofs.DotLinks.{same_after, ups_after}
use Rattle.crawl_keys.proofs.dots.after_one.Goals as goal

pub returns-in-Some-clause-following : goal.returns-in-Some-clause-following
returns-in-Some-clause-following c =
    let rest = c.in-Some.rest.now in
    let text : c.args.text.now ≡ codes "../" ++ rest = search rules in
    subst (λ t. IsAfterDots t 1 rest) (sym text) (ups_after 1 rest)

pub returns-in-Some-strip_prefix-clause-following : goal.returns-in-Some-strip_prefix-clause-following
returns-in-Some-strip_prefix-clause-following c = grind (arith, same_after)
