use Rattle.crawl_certificate.proofs.Prelude.{◌≡◌, ◌+◌, ◌<◌, ◌^◌, ◌==◌, ◌&&◌, true, length, IfSome, sym, subst, arith, if◌then◌else◌, Contains, Entry, allows, is_founded, is_linked, MarksOnly, IsWalk}
use Rattle.crawl_certificate.proofs.Walks.{all_urls, faultless}
use Rattle.crawl_certificate.proofs.walk.is_founded_by.Goals as goal

pub returns : goal.returns
returns c = λ results lost apart long walk seen.
    let fits : 0 + length results < 2 ^ 64 = omega (arith, long, c.entries.ensures.len) in
    let entries = c.args.accepted.now in
    let allowed = allows c.args.filter.now in
    let seeds = c.args.seeds.now in
    let listed = c.entries.ensures.entries in
    let holds = is_linked entries results in
    let least = subst (λ o. IfSome o (λ m. IsWalk entries 0 results m.items)) c.in-Some.is walk in
    let only = subst (λ es. MarksOnly holds es c.deref.result.now) (sym listed) (subst (MarksOnly holds entries) (sym c.deref.ensures.value) least.only) in
    let each : (e : Entry) → Contains entries e → is_founded allowed seeds entries results e ≡ true =
    λ e has.
    subst (λ b. (allowed e.url && (if e.hops == 0 then b else holds e)) ≡ true) (c.in_ok-seed_set.ensures e.url)
    (c.are_founded.ensures holds seen only e (subst (λ es. Contains es e) (sym listed) has)) in
    faultless allowed seeds entries results lost apart (all_urls entries results long (least.own fits)) each
