use Rattle.crawl_keys.proofs.Prelude.{◌+◌, ◌-◌, ℕ, List, length, take_all, length-drop, drop, ap, sym, ◌∙◌, arith, rules, Option, rsplit_once_at_last, rsplit_once_none}
use Rattle.crawl_keys.proofs.plain.last_label.Goals as goal

pub returns-in-Some : goal.returns-in-Some
returns-in-Some c =
    let host = c.args.host.now in
    let n = c.in-Some.dot + 1 in
    let found = rsplit_once_at_last 46 host c.in-Some.dot (search rules) (search rules) (search rules) in
    take_all (length host - n) (drop n host) (omega (arith, length-drop n host)) ∙ sym (ap (λ (r : Option (List ℕ) × List ℕ). r.1) found)

pub returns-in-None : goal.returns-in-None
returns-in-None c = sym (ap (λ (r : Option (List ℕ) × List ℕ). r.1) (rsplit_once_none 46 c.args.host.now (search rules)))
