-- Which lists of results have one report.
use Rattle.crawl_report.proofs.Prelude.{◌≡◌, ◌≢◌, ℕ, zero, suc, ◌<◌, ◌↔◌, Bool, false, cond, List, [], ◌∷◌, ◌++◌, length, get_or, map, AllPairs, Contains, refl, sym, ap, ◌∙◌, arith, inl, inr, suc-le-suc, zero-le, cases_Bool, nat_list_eq_equiv, flat_map, IsPermutation, bytes_eq, length_permutation, sum_by-IsPermutation, Contains-permutation, IsPermutation-sym, IsPermutation-map, get_or-map, length-map, bytes_eq-Decides, is_found, is_missing, is_moved, Missing, PageResult, is_before, results_by_url, results_at, HasEachUrlOnce, before_ranks, results_at-results_by_url, results_by_url-only, filter-kept, filter-dropped, sorted-stable_sort, IsPermutation-stable_sort, result_line, total_line, report}
use Rattle.std.proofs.lemmas.Map.Keys.{IsDistinct-IsPermutation}
use Rattle.std.proofs.lemmas.Map.Made.{AllPairs-from_IsDistinct, IsDistinct-from_AllPairs}

-- ---- the report is that of its order

total_line-results_by_url : (results : List PageResult) → total_line (results_by_url results) ≡ total_line results
total_line-results_by_url results =
    let moved = IsPermutation-stable_sort is_before results in
    let all = length_permutation results (results_by_url results) moved in
    let found = sum_by-IsPermutation (λ r. cond (is_found r.page) 1 0) results (results_by_url results) moved in
    let missing = sum_by-IsPermutation (λ r. cond (is_missing r.page) 1 0) results (results_by_url results) moved in
    let gone = sum_by-IsPermutation (λ r. cond (is_moved r.page) 1 0) results (results_by_url results) moved in
    rw (all, found, missing, gone) refl

pub report_across : (results others : List PageResult) → ((url : List ℕ) → results_at url results ≡ results_at url others) → report results ≡ report others
report_across results others same =
    let order : results_by_url results ≡ results_by_url others =
    results_by_url-only others (results_by_url results) (record {
      ascends = sorted-stable_sort is_before before_ranks results;
      keeps = λ url. results_at-results_by_url url results ∙ same url;
    }) in
    ap (λ t. flat_map result_line (results_by_url results) ++ t) (sym (total_line-results_by_url results))
    ∙ ap (λ l. flat_map result_line l ++ total_line l) order
    ∙ ap (λ t. flat_map result_line (results_by_url others) ++ t) (total_line-results_by_url others)

-- ---- each URL once

found : (url : List ℕ) (results : List PageResult) (one : PageResult) (more : List PageResult) → results_at url results ≡ one ∷ more → Contains results one × (one.url ≡ url)
found url [] one more e = cc
found url (r ∷ rs) one more e =
    let p : PageResult → Bool = λ r. bytes_eq r.url url in
    elim (cases_Bool (bytes_eq r.url url)) [
      | inl with ↦
          let kept = sym (filter-kept p r rs with) ∙ e in
          let first : r ≡ one = cc in
          ((zero, suc-le-suc zero-le, first), ap (λ x. x.url) (sym first) ∙ (bytes_eq-Decides r.url url).0 with)
      | inr without ↦
          let later = found url rs one more (sym (filter-dropped p r rs without) ∙ e) in
          ((suc later.0.0, suc-le-suc later.0.1, later.0.2), later.1)
    ]

differs : (url other : List ℕ) → url ≢ other → bytes_eq url other ≡ false
differs url other apart = grind (arith, bytes_eq-Decides)

nowhere : (url : List ℕ) (results : List PageResult) → ((k : ℕ) (d : PageResult) → k < length results → (get_or results k d).url ≢ url) → results_at url results ≡ []
nowhere url [] apart = refl
nowhere url (r ∷ rs) apart =
    filter-dropped (λ r. bytes_eq r.url url) r rs (differs r.url url (apart zero r (suc-le-suc zero-le)))
    ∙ nowhere url rs (λ k d below. apart (suc k) d (suc-le-suc below))

rest_once : (r : PageResult) (rs : List PageResult) → HasEachUrlOnce (r ∷ rs) → HasEachUrlOnce rs
rest_once r rs once i j d before below = once (suc i) (suc j) d (suc-le-suc before) (suc-le-suc below)

only_at : (results : List PageResult) (one : PageResult) (k : ℕ) → k < length results → get_or results k one ≡ one → HasEachUrlOnce results → results_at one.url results ≡ one ∷ []
only_at [] one k below at once = absurd (omega arith)
only_at (r ∷ rs) one zero below at once =
    let p : PageResult → Bool = λ r. bytes_eq r.url one.url in
    let url : r.url ≡ one.url = ap (λ x. x.url) at in
    let others = nowhere one.url rs (λ k d h e. once zero (suc k) d (suc-le-suc zero-le) (suc-le-suc h) (url ∙ sym e)) in
    filter-kept p r rs ((bytes_eq-Decides r.url one.url).1 url) ∙ ap (λ l. r ∷ l) others ∙ ap (λ x. x ∷ []) at
only_at (r ∷ rs) one (suc k) below at once =
    let p : PageResult → Bool = λ r. bytes_eq r.url one.url in
    let apart : r.url ≢ one.url = λ e. once zero (suc k) one (suc-le-suc zero-le) below (e ∙ sym (ap (λ x. x.url) at)) in
    filter-dropped p r rs (differs r.url one.url apart) ∙ only_at rs one k (omega arith) at (rest_once r rs once)

only_one : (results : List PageResult) (one : PageResult) → HasEachUrlOnce results → Contains results one → results_at one.url results ≡ one ∷ []
only_one results one once h = only_at results one h.0 h.1 h.2 once

-- what two lists have with a URL, if they have the same results
agree : (url : List ℕ) (results others : List PageResult) → HasEachUrlOnce results → HasEachUrlOnce others → ((one : PageResult) → Contains results one ↔ Contains others one) → (left right : List PageResult) → results_at url results ≡ left → results_at url others ≡ right → left ≡ right
agree url results others once other_once same [] [] at_left at_right = refl
agree url results others once other_once same [] (s ∷ right) at_left at_right =
    let there = found url others s right at_right in
    let here = ap (λ u. results_at u results) (sym there.1) ∙ only_one results s once ((same s).1 there.0) in
    let clash = sym at_left ∙ here in cc
agree url results others once other_once same (r ∷ left) right at_left at_right =
    let here = found url results r left at_left in
    let only = ap (λ u. results_at u results) (sym here.1) ∙ only_one results r once here.0 in
    let there = ap (λ u. results_at u others) (sym here.1) ∙ only_one others r other_once ((same r).0 here.0) in
    sym at_left ∙ only ∙ sym there ∙ at_right

pub report_same : (results others : List PageResult) → HasEachUrlOnce results → HasEachUrlOnce others → ((one : PageResult) → Contains results one ↔ Contains others one) → report results ≡ report others
report_same results others once other_once same =
    report_across results others (λ url. agree url results others once other_once same _ _ refl refl)

-- ---- in another order, each URL still comes once

apart_urls : (results : List PageResult) → HasEachUrlOnce results → AllPairs (λ a b. a ≢ b) (map (λ r. r.url) results)
apart_urls results once i j e before below same =
    let d : PageResult = record { url = e; page = Missing } in
    let within : j < length results = omega (arith, length-map results (λ (r : PageResult). r.url)) in
    once i j d before within (sym (get_or-map (λ r. r.url) results i d e (omega arith)) ∙ same ∙ get_or-map (λ r. r.url) results j d e within)

once_from_urls : (results : List PageResult) → AllPairs (λ a b. a ≢ b) (map (λ r. r.url) results) → HasEachUrlOnce results
once_from_urls results apart i j d before below same =
    apart i j d.url before (omega (arith, length-map results (λ (r : PageResult). r.url)))
    (get_or-map (λ r. r.url) results i d d.url (omega arith) ∙ same ∙ sym (get_or-map (λ r. r.url) results j d d.url below))

once_moved : (results others : List PageResult) → IsPermutation results others → HasEachUrlOnce results → HasEachUrlOnce others
once_moved results others moved once =
    let distinct = IsDistinct-from_AllPairs bytes_eq-Decides (map (λ r. r.url) results) (apart_urls results once) in
    once_from_urls others
    (AllPairs-from_IsDistinct bytes_eq-Decides (map (λ r. r.url) others)
    (IsDistinct-IsPermutation bytes_eq nat_list_eq_equiv.symm _ _ (IsPermutation-map (λ r. r.url) results others moved) distinct))

pub report_permuted : (results others : List PageResult) → HasEachUrlOnce results → IsPermutation results others → report results ≡ report others
report_permuted results others once moved =
    report_same results others once (once_moved results others moved once)
    (λ one. (Contains-permutation results others one moved, Contains-permutation others results one (IsPermutation-sym results others moved)))
