use Rattle.crawl_sources.proofs.Prelude.{◌≡◌, List, take, Some, None, sym, subst, if◌then◌else◌, list_any, bytes_eq, PageResult, pointed, count_of, none_counted}
use Rattle.crawl_sources.proofs.Counts.{none_put, pointed_more}
use Rattle.crawl_sources.proofs.counting.no_tallies.Goals as goal

pub loop-one-preserved : goal.loop-one-preserved
loop-one-preserved c = λ url.
    let all = c.args.listed.now in
    let i = c.loop-one.one-index in
    let x = c.one-item.result in
    let P : List PageResult → Type 0 = λ rs. count_of c.insert.new.self url ≡ (if list_any (λ (r : PageResult). bytes_eq r.url url) rs then Some none_counted else None) in
    subst P (sym (pointed_more all i x c.loop-one-test.true c.one-item.is))
    (none_put c.loop-one.tallies c.insert.new.self (pointed (take i all)) x.now c.hashed.result c.new.result c.hashed.ensures c.new.ensures c.in_ok-insert.ensures.updates url (c.loop-one.invariant url))
