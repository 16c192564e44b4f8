use Rattle.crawl_keys.proofs.Prelude.{◌≡◌, ◌∙◌, ap, rules, arith, is_of_folder, before_fragment}
use Rattle.crawl_keys.proofs.FragmentLemmas.{is_of_folder-before_fragment, resolve-before_fragment}
use Rattle.crawl_keys.proofs.fragment.before_fragment.Goals as goal

pub returns-then-ends_visibly-clause-target : goal.returns-then-ends_visibly-clause-target
returns-then-ends_visibly-clause-target c base = grind (arith, resolve-before_fragment)

pub returns-then-ends_visibly-clause-folder : goal.returns-then-ends_visibly-clause-folder
returns-then-ends_visibly-clause-folder c folder =
    let front : c.before_sign-front.result.now ≡ before_fragment c.args.text.now = search rules in
    ap is_of_folder front ∙ is_of_folder-before_fragment c.args.text.now folder
