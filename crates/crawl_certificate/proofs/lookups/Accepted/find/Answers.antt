use Rattle.crawl_certificate.proofs.Prelude.{rules, ◌≡◌, ◌+◌, ◌%◌, ◌<◌, Some, is_some, sym, subst, arith, subqueue_of, is_accepted, pointed, Finds}
use Rattle.crawl_certificate.proofs.Indices.{IsAnswer, answers_absent, answers_there, queue_within}
use Rattle.crawl_certificate.proofs.Places.{found_within, length_pointed}
use Rattle.crawl_certificate.proofs.lookups.Accepted.find.Goals as goal

pub returns-in_err-index-clause-found : goal.returns-in_err-index-clause-found
returns-in_err-index-clause-found c =
    let all = c.self.inside in
    let queue = c.hash.result % c.workers-workers.result in
    let own : queue ≡ subqueue_of c.args.url.now all.account.now.workers = search rules in
    let below : queue < all.account.now.workers = search rules in
    let least = answers_absent all.account.now (pointed all.entries.items) all.firsts.items c.self.invariant c.args.url.now queue own below c.in_err-index.ensures in
    subst (λ o. Finds c.args.self.now c.args.url.now o) (sym c.from_residual.ensures) (rw (← c.self.view_is) least.found)

pub returns-in_err-index-clause-accepted : goal.returns-in_err-index-clause-accepted
returns-in_err-index-clause-accepted c =
    let all = c.self.inside in
    let queue = c.hash.result % c.workers-workers.result in
    let own : queue ≡ subqueue_of c.args.url.now all.account.now.workers = search rules in
    let below : queue < all.account.now.workers = search rules in
    let least = answers_absent all.account.now (pointed all.entries.items) all.firsts.items c.self.invariant c.args.url.now queue own below c.in_err-index.ensures in
    subst (λ o. is_some o ≡ is_accepted c.args.self.now c.args.url.now) (sym c.from_residual.ensures) (rw (← c.self.view_is) least.accepted)

pub index-requires : goal.index-requires
index-requires c =
    let all = c.self.inside in
    let queue = c.hash.result % c.workers-workers.result in
    let own : queue ≡ subqueue_of c.args.url.now all.account.now.workers = search rules in
    let below : queue < all.account.now.workers = search rules in
    omega (arith, queue_within all.account.now (pointed all.entries.items) all.firsts.items c.self.invariant c.args.url.now queue own below, all.firsts.ok.0)

pub overflow_add-result : goal.overflow_add-result
overflow_add-result c =
    let all = c.self.inside in
    let queue = c.hash.result % c.workers-workers.result in
    let own : queue ≡ subqueue_of c.args.url.now all.account.now.workers = search rules in
    let below : queue < all.account.now.workers = search rules in
    let least = answers_there all.account.now (pointed all.entries.items) all.firsts.items c.self.invariant c.args.url.now queue own below c.index.result.now c.in_ok-index.index c.index.ensures c.in_ok-index.ensures in
    let within = found_within (pointed all.entries.items) c.args.url.now (c.index.result.now + c.in_ok-index.index) least.found in
    omega (arith, within, length_pointed all.entries.items, all.entries.ok.0, all.entries.ok.1, all.entries.small)

pub returns : goal.returns
returns c =
    let all = c.self.inside in
    let queue = c.hash.result % c.workers-workers.result in
    let index = c.index.result.now + c.in_ok-index.index in
    let own : queue ≡ subqueue_of c.args.url.now all.account.now.workers = search rules in
    let below : queue < all.account.now.workers = search rules in
    let known = answers_there all.account.now (pointed all.entries.items) all.firsts.items c.self.invariant c.args.url.now queue own below c.index.result.now c.in_ok-index.index c.index.ensures c.in_ok-index.ensures in
    let least : IsAnswer c.args.self.now c.args.url.now (Some index) = rw (← c.self.view_is) known in
    record { found = least.found; accepted = least.accepted; within = found_within c.args.self.now c.args.url.now index least.found }
