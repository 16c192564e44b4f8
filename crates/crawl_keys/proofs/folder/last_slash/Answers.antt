use Rattle.crawl_keys.proofs.Prelude.{◌<◌, ℕ, List, [], length, length-take-le, ap, sym, ◌∙◌, arith, rules, Option, unwrap_or, rsplit_once_at_last, rsplit_once_none}
use Rattle.crawl_keys.proofs.folder.last_slash.Goals as goal

pub returns-in-Some-clause-value : goal.returns-in-Some-clause-value
returns-in-Some-clause-value c =
    let path = c.args.path.now in
    let place = c.in-Some.place in
    let inside : place < length path = search rules in
    let found = rsplit_once_at_last 47 path place inside (search rules) (search rules) in
    sym (length-take-le place path (omega arith)) ∙ ap (λ (r : Option (List ℕ) × List ℕ). length (unwrap_or r.0 [])) (sym found)

pub returns-in-None-clause-value : goal.returns-in-None-clause-value
returns-in-None-clause-value c =
    ap (λ (r : Option (List ℕ) × List ℕ). length (unwrap_or r.0 [])) (sym (rsplit_once_none 47 c.args.path.now (search rules)))
