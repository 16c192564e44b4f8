use Rattle.crawl_sources.proofs.Prelude.{◌≡◌, ℕ, List, sym, subst, rules, if◌then◌else◌, option_map, bytes_eq, counted, count_of}
use Rattle.crawl_sources.proofs.Counts.{count_put}
use Rattle.crawl_sources.proofs.counting.count_link.Goals as goal

pub returns-in_ok-add : goal.returns-in_ok-add
returns-in_ok-add c = λ url.
    let new = c.get_mut.follows.lender c.add.new.self in
    let P : List ℕ → Type 0 = λ key. count_of new url ≡ option_map (λ n. if bytes_eq key url then counted c.args.all c.args.number c.args.page.now n else n) (count_of c.args.tallies.now url) in
    subst P c.hashed.ensures
    (count_put c.args.tallies.now new c.hashed.result c.in-Some.tally.now c.add.new.self (counted c.args.all c.args.number c.args.page.now)
    ((c.get_mut.follows.holds c.add.new.self).3 (search rules)) c.in_ok-add.ensures (sym c.in-Some.ensures.value) url)
