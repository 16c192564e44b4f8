-- Texts have one ascending order.
use Rattle.crawl_report.proofs.Prelude.{◌≡◌, ℕ, suc, ◌+◌, ◌<◌, Bool, List, [], ◌∷◌, length, map, get_or, refl, sym, ap, subst, ◌∙◌, arith, if◌then◌else◌, inl, inr, cases_Bool, get_or-map, length-map, sum_by-IsPermutation, bytes_eq-Decides, slice_cmp, sum_by, IsPermutation, IsSortedByKey, is_lt, nat_cmp, bytes_eq, results_by_url-only, filter-kept, filter-dropped, results_at, results_by_url, Missing, PageResult}
use Rattle.std.proofs.Math.ListN.{replicate}
use Rattle.std.proofs.lemmas.List.Sums.{sum_by-cons}

-- a result at a URL
abbrev at : List ℕ → PageResult
at url = record { url = url; page = Missing }

urls_of_results : (urls : List (List ℕ)) → map (λ (r : PageResult). r.url) (map at urls) ≡ urls
urls_of_results [] = refl
urls_of_results (url ∷ urls) = ap (λ us. url ∷ us) (urls_of_results urls)

sorted_results : (urls : List (List ℕ)) → IsSortedByKey (λ url. url) (slice_cmp nat_cmp) urls → IsSortedByKey (λ (r : PageResult). r.url) (slice_cmp nat_cmp) (map at urls)
sorted_results urls sorted k d low below =
    let within : k + 1 < length urls = subst (λ n. k + 1 < n) (length-map urls at) below in
    let before : k < length urls = omega (arith, within) in
    let first : get_or (map at urls) k d ≡ at (get_or urls k d.url) = get_or-map at urls k d.url d before in
    let second : get_or (map at urls) (k + 1) d ≡ at (get_or urls (k + 1) d.url) = get_or-map at urls (k + 1) d.url d within in
    (λ i. is_lt (slice_cmp nat_cmp (second i).url (first i).url)) ∙ sorted k d.url low within

-- how many times the URL is among these
abbrev times : List ℕ → List (List ℕ) → ℕ
times url urls = sum_by (λ own. if bytes_eq own url then 1 else 0) urls

add_none : (n : ℕ) → 0 + n ≡ n
add_none n = omega arith

add_one_more : (n : ℕ) → 1 + n ≡ suc n
add_one_more n = omega arith

-- one result at the URL for each time that the URL is there
copies : (url : List ℕ) (urls : List (List ℕ)) → results_at url (map at urls) ≡ replicate (times url urls) (at url)
copies url [] = refl
copies url (own ∷ more) =
    let p : PageResult → Bool = λ r. bytes_eq r.url url in
    let whole : times url (own ∷ more) ≡ (if bytes_eq own url then 1 else 0) + times url more = sum_by-cons (λ own. if bytes_eq own url then 1 else 0) own more in
    elim (cases_Bool (bytes_eq own url)) [
      | inl is ↦
          filter-kept p (at own) (map at more) is
          ∙ (λ i. at ((bytes_eq-Decides own url).0 is i) ∷ copies url more i)
          ∙ ap (λ n. replicate n (at url)) (sym (whole ∙ ap (λ b. (if b then 1 else 0) + times url more) is ∙ add_one_more (times url more)))
      | inr other ↦
          filter-dropped p (at own) (map at more) other ∙ copies url more
          ∙ ap (λ n. replicate n (at url)) (sym (whole ∙ ap (λ b. (if b then 1 else 0) + times url more) other ∙ add_none (times url more)))
    ]

same_copies : (url : List ℕ) (urls own : List (List ℕ)) → IsPermutation urls own → results_at url (map at own) ≡ results_at url (map at urls)
same_copies url urls own same = grind (arith, copies, replicate, sum_by-IsPermutation)

in_order : (urls own : List (List ℕ)) → IsPermutation urls own → IsSortedByKey (λ url. url) (slice_cmp nat_cmp) own → map at own ≡ results_by_url (map at urls)
in_order urls own same sorted = results_by_url-only (map at urls) (map at own) (record { ascends = sorted_results own sorted; keeps = λ url. same_copies url urls own same })

pub one_order : (urls own other : List (List ℕ)) → IsPermutation urls own → IsPermutation urls other → IsSortedByKey (λ url. url) (slice_cmp nat_cmp) own → IsSortedByKey (λ url. url) (slice_cmp nat_cmp) other → own ≡ other
one_order urls own other same others sorted ascends =
    sym (urls_of_results own) ∙ ap (map (λ (r : PageResult). r.url)) (in_order urls own same sorted ∙ sym (in_order urls other others ascends)) ∙ urls_of_results other
