use Rattle.mercator_site.proofs.Prelude.{ℕ, List, ◌≡◌, ◌∙◌, ap, map, IfOk, subst, rules, slice_cmp, nat_list_cmp_total, IsPermutation, nat_cmp, is_lt, pointed, host_root, outside_links, row_of, runs}
use Rattle.std.proofs.lemmas.List.Sorted.{answers_always, ranks_by, IsPermutation-map}
use Rattle.std.specs.Borrow.{Bor}
use Rattle.crawl_report.proofs.Sets.{sorted_pointed}
use Rattle.mercator_site.proofs.Runs.{rows_of_links}
use Rattle.mercator_site.proofs.external.external_links.Goals as goal

pub returns : goal.returns
returns c =
    let found = c.in_ok-urls.urls.items in
    let urls = c.sort_by.new.self.items in
    let pages = c.args.pages.now in
    let links = c.in_ok-urls.ensures ∙ ap (λ root. outside_links root pages) (c.as_str.ensures.value ∙ c.in_ok-root.ensures) in
    rows_of_links c.runs.result (host_root c.args.files.now) pages (pointed urls)
    (subst (λ us. IsPermutation us (pointed urls)) links (IsPermutation-map (λ (u : Bor (List ℕ)). u.now) found urls c.sort_by.ensures.permutation))
    (sorted_pointed urls
    (c.in_ok-sort_by.ensures.sorted (λ (a b : Bor (List ℕ)). is_lt (slice_cmp nat_cmp a.now b.now)) (ranks_by nat_list_cmp_total (λ (u : Bor (List ℕ)). u.now))
    (answers_always _ _ _ (λ f a r g h. search rules))))
    (subst (λ (us : List (Bor (List ℕ))). IfOk c.runs.result (λ all. map row_of all.items ≡ runs (pointed us))) c.as_slice.ensures.value c.runs.ensures)
