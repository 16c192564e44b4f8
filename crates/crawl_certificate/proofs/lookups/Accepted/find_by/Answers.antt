use Rattle.crawl_certificate.proofs.Prelude.{rules, ◌≡◌, true, Some, has_url_at}
use Rattle.crawl_certificate.proofs.Indices.{IsAnswer, answers_guess}
use Rattle.crawl_certificate.proofs.Places.{found_within}
use Rattle.crawl_certificate.proofs.lookups.Accepted.find_by.Goals as goal

pub returns-then-is_at : goal.returns-then-is_at
returns-then-is_at c =
    let account = c.self.inside.account.now in
    let firsts = c.self.inside.firsts.items in
    let stands : has_url_at c.args.self.now c.args.guess c.args.url.now ≡ true = search rules in
    let least : IsAnswer c.args.self.now c.args.url.now (Some c.args.guess) =
    answers_guess account c.args.self.now firsts (rw (← c.self.view_is) c.self.invariant) c.args.url.now c.args.guess stands in
    record { found = least.found; accepted = least.accepted; within = found_within c.args.self.now c.args.url.now c.args.guess least.found }
