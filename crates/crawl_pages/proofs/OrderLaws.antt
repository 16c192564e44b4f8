-- The order of results, stated for their URLs.
use native.Mathlib.Omega.{arith}
use Rattle.std.proofs.Common.{◌≡◌, ℕ, not, ◌&&◌, List, filter, map, Ordering, Bor, sym, ap, ◌∙◌, bytes_eq}
use Rattle.std.specs.Ordering.{is_lt, is_eq, nat_cmp, ordering_reverse}
use Rattle.std.specs.Cmp.{IsStrictWeakOrder}
use Rattle.std.specs.Cmp.Lexicographic.{slice_cmp}
use Rattle.std.specs.List.Sorted.{ties, IsSortedBy, IsStableBy}
use Rattle.std.proofs.lemmas.Cmp.{nat_list_cmp_total}
use Rattle.std.proofs.lemmas.List.Sorted.{ranks_by}
use Rattle.std.proofs.lemmas.Map.Text.{is_eq-slice_cmp}
use Rattle.crawl_pages.specs.declared.page.Page.TheVariants.{Missing}
use Rattle.crawl_pages.specs.declared.page.PageResult.{PageResult}
use Rattle.crawl_pages.specs.ResultOrder.{is_before, results_by_url, results_at, IsInOrder}
use Rattle.crawl_pages.proofs.StableSort.{filter-stable_sort, sorted-stable_sort, stable_sort-from_sort, map-stable_sort}

-- ---- the order

pub before_ranks : IsStrictWeakOrder is_before
before_ranks = ranks_by nat_list_cmp_total (λ r. r.url)

pub references_rank : IsStrictWeakOrder (λ (a : Bor PageResult) b. is_before a.now b.now)
references_rank = ranks_by nat_list_cmp_total (λ r. r.now.url)

-- a stable sort of references is that of the results to which they refer
pub results_by_url-from_sort : (given sorted : List (Bor PageResult)) → IsSortedBy (λ a b. is_before a.now b.now) sorted → IsStableBy (λ a b. is_before a.now b.now) given sorted → map (λ r. r.now) sorted ≡ results_by_url (map (λ r. r.now) given)
results_by_url-from_sort given sorted ascends stable =
    ap (map (λ r. r.now)) (stable_sort-from_sort (λ a b. is_before a.now b.now) references_rank given sorted ascends stable)
    ∙ map-stable_sort (λ r. r.now) is_before given

-- ---- results that tie have one URL

tied : (o : Ordering) → not (is_lt (ordering_reverse o)) && not (is_lt o) ≡ is_eq o
tied o = grind arith

ties-url : (x r : PageResult) → ties is_before x r ≡ bytes_eq r.url x.url
ties-url x r =
    ap (λ o. not (is_lt o) && not (is_lt (slice_cmp nat_cmp r.url x.url))) (nat_list_cmp_total.antisymm x.url r.url)
    ∙ tied (slice_cmp nat_cmp r.url x.url) ∙ is_eq-slice_cmp r.url x.url

results_at-ties : (x : PageResult) (results : List PageResult) → filter (ties is_before x) results ≡ results_at x.url results
results_at-ties x results = ap (λ p. filter p results) (λ i r. ties-url x r i)

pub results_at-results_by_url : (url : List ℕ) (results : List PageResult) → results_at url (results_by_url results) ≡ results_at url results
results_at-results_by_url url results =
    let x : PageResult = record { url = url; page = Missing } in
    sym (results_at-ties x (results_by_url results)) ∙ filter-stable_sort is_before before_ranks x results ∙ results_at-ties x results

pub results_by_url-in_order : (results : List PageResult) → IsInOrder results (results_by_url results)
results_by_url-in_order results = grind (arith, sorted-stable_sort, before_ranks, results_at-results_by_url)

pub results_by_url-only : (results ordered : List PageResult) → IsInOrder results ordered → ordered ≡ results_by_url results
results_by_url-only results ordered h =
    stable_sort-from_sort is_before before_ranks results ordered h.ascends
    (λ x. results_at-ties x ordered ∙ h.keeps x.url ∙ sym (results_at-ties x results))
