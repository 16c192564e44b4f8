-- What a certificate states, derived from its errors and from the order of its pages.
use Rattle.crawl_certificate.proofs.Prelude.{◌≡◌, ℕ, Bool, true, List, None, sym, subst, ◌∙◌, arith, slice_cmp, nat_cmp, All, Contains, IsPermutation, IsSortedByKey, All-contains, All-weaker, All-contains_itself, All-permutation, Contains-permutation, IsPermutation-sym, IsPermutation-map, IsPermutation-trans, Entry, Page, PageResult, first_error, is_accepted, entry_urls, result_urls, IsAscending, ArePages, AreReachable, IsCrawl, page_in, DifferByUrl, WalkOf}
use Rattle.crawl_certificate.proofs.Lists.{any_from, text_itself}
use Rattle.crawl_certificate.proofs.Certified.{no_error, entry_walk, results_reached, result_accepted, entry_with, accepted_has_result, in_map, from_map, page_at_result}
use Rattle.crawl_certificate.proofs.Order.{distinct_results, distinct_entries, distinct_permuted, ascends, same_elements}

-- the URLs of the pages, which are the results in another order
pub pages_reached : (page : List ℕ → Page) (allowed : List ℕ → Bool) (seeds : List (List ℕ)) (entries : List Entry) (results pages : List PageResult) → first_error allowed seeds entries results ≡ None → IsPermutation results pages → ((r : PageResult) → Contains results r → page r.url ≡ r.page) → AreReachable page allowed seeds (result_urls pages)
pages_reached page allowed seeds entries results pages none moved agrees = λ url.
    let both = results_reached page allowed seeds entries results agrees (no_error allowed seeds entries results none) url in
    let urls : IsPermutation (result_urls results) (result_urls pages) = IsPermutation-map (λ (r : PageResult). r.url) results pages moved in (
      λ has. both.0 (Contains-permutation (result_urls pages) (result_urls results) url (IsPermutation-sym _ _ urls) has),
      λ reach. Contains-permutation (result_urls results) (result_urls pages) url urls (both.1 reach),
    )

pub own_pages : (allowed : List ℕ → Bool) (seeds : List (List ℕ)) (entries : List Entry) (results : List PageResult) → first_error allowed seeds entries results ≡ None → (r : PageResult) → Contains results r → page_in results r.url ≡ r.page
own_pages allowed seeds entries results none r among = page_at_result results r (no_error allowed seeds entries results none).once among

pub pages_ascend : (allowed : List ℕ → Bool) (seeds : List (List ℕ)) (entries : List Entry) (results pages : List PageResult) → first_error allowed seeds entries results ≡ None → IsPermutation results pages → IsSortedByKey (λ r. r.url) (slice_cmp nat_cmp) pages → IsAscending (result_urls pages)
pages_ascend allowed seeds entries results pages none moved sorted =
    ascends pages (distinct_permuted (result_urls results) (result_urls pages) (IsPermutation-map (λ (r : PageResult). r.url) results pages moved) (distinct_results results (no_error allowed seeds entries results none).once)) sorted

pub one_each : (allowed : List ℕ → Bool) (seeds : List (List ℕ)) (entries : List Entry) (results pages : List PageResult) → first_error allowed seeds entries results ≡ None → DifferByUrl entries → IsPermutation results pages → IsPermutation (entry_urls entries) (result_urls pages)
one_each allowed seeds entries results pages none apart moved =
    let clear = no_error allowed seeds entries results none in
    IsPermutation-trans (entry_urls entries) (result_urls results) (result_urls pages)
    (same_elements (entry_urls entries) (result_urls results) (distinct_entries entries apart) (distinct_results results clear.once)
    (λ url has.
    let e = from_map (λ (x : Entry). x.url) entries url has in
    let accepted : is_accepted entries e.0.url ≡ true = any_from _ entries e.0 e.1 (text_itself e.0.url) in
    let r = accepted_has_result entries results e.0.url clear.fetched accepted in
    subst (λ u. Contains (result_urls results) u) (r.has ∙ e.2) (in_map (λ (x : PageResult). x.url) results r.one r.among))
    (λ url has.
    let r = from_map (λ (x : PageResult). x.url) results url has in
    let e = entry_with entries r.0.url (result_accepted allowed seeds entries results clear r.0 r.1) in
    subst (λ u. Contains (entry_urls entries) u) (e.has ∙ r.2) (in_map (λ (x : Entry). x.url) entries e.entry e.among)))
    (IsPermutation-map (λ (r : PageResult). r.url) results pages moved)

pub entries_walk : (allowed : List ℕ → Bool) (seeds : List (List ℕ)) (entries : List Entry) (results : List PageResult) → first_error allowed seeds entries results ≡ None → All (λ e. WalkOf (page_in results) allowed seeds e.hops e.url) entries
entries_walk allowed seeds entries results none = grind (arith, All-weaker, entry_walk, own_pages, no_error, All-contains_itself)

pub whole_crawl : (meaning : List ℕ → Page) (allowed : List ℕ → Bool) (seeds : List (List ℕ)) (entries : List Entry) (results pages : List PageResult) → first_error allowed seeds entries results ≡ None → ArePages meaning results → IsPermutation results pages → IsAscending (result_urls pages) → IsCrawl meaning allowed seeds pages
whole_crawl meaning allowed seeds entries results pages none means moved ascending = record {
  ascends = ascending;
  means = All-permutation (λ (r : PageResult). r.page ≡ meaning r.url) results pages moved means;
  reached = pages_reached meaning allowed seeds entries results pages none moved (λ r among. sym (All-contains (λ (x : PageResult). x.page ≡ meaning x.url) results r means among));
}
