use Rattle.crawl_report.proofs.Prelude.{ℕ, List, subst, ◌∙◌, rules, answers_always, ranks_by, IsPermutation-map, Bor, slice_cmp, nat_list_cmp_total, IsPermutation, nat_cmp, is_lt, allows, pointed}
use Rattle.crawl_report.proofs.Sets.{sorted_pointed, unseen_unreached}
use Rattle.crawl_report.proofs.unseen.unreached.Goals as goal

pub returns-clause-same : goal.returns-clause-same
returns-clause-same c =
    subst (λ us. IsPermutation us (pointed c.sort_by.new.self.items))
    (c.in_ok-found.ensures ∙ unseen_unreached (allows c.args.filter.now) c.args.results.now c.in_ok-seen.seen c.in_ok-seen.ensures c.args.urls.now)
    (IsPermutation-map (λ (u : Bor (List ℕ)). u.now) c.in_ok-found.found.items c.sort_by.new.self.items c.sort_by.ensures.permutation)

pub returns-clause-sorted : goal.returns-clause-sorted
returns-clause-sorted c =
    sorted_pointed c.sort_by.new.self.items
    (c.in_ok-sort_by.ensures.sorted (λ (a b : Bor (List ℕ)). is_lt (slice_cmp nat_cmp a.now b.now)) (ranks_by nat_list_cmp_total (λ (u : Bor (List ℕ)). u.now))
    (answers_always _ _ _ (λ f a r g h. search rules)))
