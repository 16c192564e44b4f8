-- Lists without repetitions: after sorting they ascend, and if two have the same elements, one is a permutation of the other.
use Rattle.crawl_certificate.proofs.Prelude.{◌≡◌, ◌≢◌, inl, inr, ℕ, zero, suc, ◌<◌, false, List, [], ◌∷◌, ◌++◌, length, get_or, refl, sym, ap, subst, ◌∙◌, arith, suc-le-suc, zero-le, slice_cmp, nat_list_cmp_total, nat_cmp, is_lt, is_eq, ordering_reverse, Ordering, Less, Equal, Greater, IsPermutation, IsSortedByKey, bytes_eq, or_parts, both_ways, false_from_ne_true, get_or-map, length-map, All-contains, All-from_recursion, sorted_far, ranks_by, IsPermutation-refl, IsPermutation-cons, IsPermutation-trans, IsPermutation-sym, IsPermutation-middle, Contains-permutation, is_eq-slice_cmp, Entry, PageResult, has_result, twice, entry_urls, result_urls, IsAscending, DifferByUrl}
use Rattle.std.specs.List.{Contains, AllByRecursion, IsDistinct}
use Rattle.std.proofs.lemmas.Map.Keys.{IsDistinct-IsPermutation}
use Rattle.crawl_keys.proofs.FilterLemmas.{bytes_eq-comm}
use Rattle.crawl_certificate.proofs.Lists.{no_element, here, there, first_or_later, same_text, text_itself}

-- ---- texts that differ

abbrev pub Distinct : List (List ℕ) → Type 0
Distinct urls = IsDistinct bytes_eq urls

differs_all : (url : List ℕ) (results : List PageResult) → has_result results url ≡ false → AllByRecursion (λ y. bytes_eq url y ≡ false) (result_urls results)
differs_all url [] none = tt
differs_all url (r ∷ rs) none = let parts = or_parts (bytes_eq r.url url) (has_result rs url) none in (bytes_eq-comm url r.url ∙ parts.0, differs_all url rs parts.1)

pub distinct_results : (results : List PageResult) → twice results ≡ false → Distinct (result_urls results)
unfolding IsDistinct
distinct_results [] once = tt
distinct_results (r ∷ rs) once = let parts = or_parts (has_result rs r.url) (twice rs) once in (differs_all r.url rs parts.0, distinct_results rs parts.1)

entry_differs : (e : Entry) (rest : List Entry) → ((j : ℕ) (d : Entry) → j < length rest → e.url ≢ (get_or rest j d).url) → AllByRecursion (λ y. bytes_eq e.url y ≡ false) (entry_urls rest)
entry_differs e [] apart = tt
entry_differs e (x ∷ xs) apart = (false_from_ne_true _ (λ same. apart zero x (suc-le-suc zero-le) (same_text e.url x.url same)), entry_differs e xs (λ j d below. apart (suc j) d (suc-le-suc below)))

pub distinct_entries : (entries : List Entry) → DifferByUrl entries → Distinct (entry_urls entries)
unfolding IsDistinct
distinct_entries [] apart = tt
distinct_entries (e ∷ rest) apart = (
  entry_differs e rest (λ j d below. apart zero (suc j) d (suc-le-suc zero-le) (suc-le-suc below)),
  distinct_entries rest (λ i j d before below. apart (suc i) (suc j) d (suc-le-suc before) (suc-le-suc below)),
)

pub distinct_permuted : (xs ys : List (List ℕ)) → IsPermutation xs ys → Distinct xs → Distinct ys
distinct_permuted xs ys moved distinct = IsDistinct-IsPermutation bytes_eq bytes_eq-comm xs ys moved distinct

pub distinct_at : (xs : List (List ℕ)) → Distinct xs → (i j : ℕ) (d : List ℕ) → i < j → j < length xs → bytes_eq (get_or xs i d) (get_or xs j d) ≡ false
unfolding IsDistinct
distinct_at [] distinct i j d before below = absurd (omega arith)
distinct_at (x ∷ xs) distinct i zero d before below = absurd (omega arith)
distinct_at (x ∷ xs) distinct zero (suc j) d before below = All-from_recursion (λ y. bytes_eq x y ≡ false) xs distinct.0 j d (omega (arith, below))
distinct_at (x ∷ xs) distinct (suc i) (suc j) d before below = distinct_at xs distinct.1 i j d (omega (arith, before)) (omega (arith, below))

-- ---- sorted lists ascend

below_from : (a b : List ℕ) (o : Ordering) → slice_cmp nat_cmp a b ≡ o → bytes_eq a b ≡ false → is_lt (slice_cmp nat_cmp b a) ≡ false → slice_cmp nat_cmp a b ≡ Less
below_from a b Less is other least = is
below_from a b Equal is other least = absurd (both_ways _ other (sym (is_eq-slice_cmp a b) ∙ ap is_eq is))
below_from a b Greater is other least = absurd (both_ways _ least (ap is_lt (nat_list_cmp_total.antisymm b a ∙ ap ordering_reverse is)))

pub ascends : (pages : List PageResult) → Distinct (result_urls pages) → IsSortedByKey (λ r. r.url) (slice_cmp nat_cmp) pages → IsAscending (result_urls pages)
ascends pages distinct sorted = λ i j d before below.
    ascends_at pages distinct sorted i j d before (subst (λ n. j < n) (length-map pages (λ (r : PageResult). r.url)) below)
  where
    ascends_some : (first : PageResult) (pages : List PageResult) → Distinct (result_urls pages) → IsSortedByKey (λ r. r.url) (slice_cmp nat_cmp) pages → (i j : ℕ) (d : List ℕ) → i < j → j < length pages → slice_cmp nat_cmp (get_or (result_urls pages) i d) (get_or (result_urls pages) j d) ≡ Less
    ascends_some first pages distinct sorted i j d before below =
        let ordered = sorted_far _ (ranks_by nat_list_cmp_total (λ (r : PageResult). r.url)) pages sorted i j first (omega (arith, before)) below in
        let at_i = get_or-map (λ (r : PageResult). r.url) pages i first d (omega (arith, before, below)) in
        let at_j = get_or-map (λ (r : PageResult). r.url) pages j first d below in
        below_from (get_or (result_urls pages) i d) (get_or (result_urls pages) j d) _ refl
        (distinct_at (result_urls pages) distinct i j d before (omega (arith, below, length-map pages (λ (r : PageResult). r.url))))
        (rw (at_i, at_j) ordered)

    ascends_at : (pages : List PageResult) → Distinct (result_urls pages) → IsSortedByKey (λ r. r.url) (slice_cmp nat_cmp) pages → (i j : ℕ) (d : List ℕ) → i < j → j < length pages → slice_cmp nat_cmp (get_or (result_urls pages) i d) (get_or (result_urls pages) j d) ≡ Less
    ascends_at [] distinct sorted i j d before below = absurd (omega arith)
    ascends_at (r ∷ rs) distinct sorted i j d before below = ascends_some r (r ∷ rs) distinct sorted i j d before below

-- ---- the same elements

not_later : (x : List ℕ) (xs : List (List ℕ)) → Distinct (x ∷ xs) → Contains xs x → ⊥
unfolding IsDistinct
not_later x xs distinct has = both_ways _ (All-contains (λ y. bytes_eq x y ≡ false) xs x (All-from_recursion (λ y. bytes_eq x y ≡ false) xs distinct.0) has) (text_itself x)

distinct_rest : (x : List ℕ) (xs : List (List ℕ)) → Distinct (x ∷ xs) → Distinct xs
unfolding IsDistinct
distinct_rest x xs distinct = distinct.1

record Split (x : List ℕ) (ys : List (List ℕ)) : Type 0 where
  pub front : List (List ℕ)
  pub back : List (List ℕ)
  pub is : ys ≡ front ++ x ∷ back

split_at : (x : List ℕ) (ys : List (List ℕ)) → Contains ys x → Split x ys
split_at x [] has = absurd (no_element x has)
split_at x (y ∷ ys) has = elim (first_or_later y x ys has) [
  | inl first ↦ record { front = []; back = ys; is = ap (λ z. z ∷ ys) first }
  | inr later ↦ let s = split_at x ys later in record { front = y ∷ s.front; back = s.back; is = ap (λ zs. y ∷ zs) s.is }
]

pub same_elements : (xs ys : List (List ℕ)) → Distinct xs → Distinct ys → ((x : List ℕ) → Contains xs x → Contains ys x) → ((x : List ℕ) → Contains ys x → Contains xs x) → IsPermutation xs ys
same_elements [] [] p q there' back' = IsPermutation-refl []
same_elements [] (y ∷ ys) p q there' back' = absurd (no_element y (back' y (here y ys)))
same_elements (x ∷ xs) ys p q there' back' =
    let s = split_at x ys (there' x (here x xs)) in
    let moved : IsPermutation ys (x ∷ (s.front ++ s.back)) = subst (λ zs. IsPermutation zs (x ∷ (s.front ++ s.back))) (sym s.is) (IsPermutation-middle s.front x s.back) in
    let apart : Distinct (x ∷ (s.front ++ s.back)) = distinct_permuted ys (x ∷ (s.front ++ s.back)) moved q in
    let same = same_elements xs (s.front ++ s.back) (distinct_rest x xs p) (distinct_rest x (s.front ++ s.back) apart)
    (λ z has. later_of x z (s.front ++ s.back) (λ e. not_later x xs p (subst (λ w. Contains xs w) (sym e) has)) (moved_has ys (x ∷ (s.front ++ s.back)) moved z (there' z (there x z xs has))))
    (λ z has. later_of x z xs (λ e. not_later x (s.front ++ s.back) apart (subst (λ w. Contains (s.front ++ s.back) w) (sym e) has)) (back' z (moved_has (x ∷ (s.front ++ s.back)) ys (IsPermutation-sym _ _ moved) z (there x z (s.front ++ s.back) has)))) in
    IsPermutation-trans _ _ _ (IsPermutation-cons x xs (s.front ++ s.back) same) (IsPermutation-sym _ _ moved)
  where
    moved_has : (xs ys : List (List ℕ)) → IsPermutation xs ys → (z : List ℕ) → Contains xs z → Contains ys z
    moved_has xs ys moved z has = Contains-permutation xs ys z moved has

    later_of : (x z : List ℕ) (zs : List (List ℕ)) → (x ≡ z → ⊥) → Contains (x ∷ zs) z → Contains zs z
    later_of x z zs differs has = elim (first_or_later x z zs has) [ inl first ↦ absurd (differs first) | inr later ↦ later ]
