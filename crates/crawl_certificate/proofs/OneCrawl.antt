-- The pages of a whole crawl are always the same list.
use Rattle.crawl_certificate.proofs.Prelude.{◌≡◌, inl, inr, ℕ, zero, suc, Bool, List, [], ◌∷◌, map, refl, sym, ap, subst, ◌∙◌, suc-le-suc, zero-le, arith, nat_tests, slice_cmp, nat_list_cmp_total, nat_cmp, ordering_reverse, Less, Greater, AllByRecursion, Contains, recursion_from_All, Page, PageResult, result_urls, IsAscending, IsCrawl}
use Rattle.crawl_certificate.proofs.Lists.{no_element, here, there, first_or_later}

head_below : (x : List ℕ) (xs : List (List ℕ)) → IsAscending (x ∷ xs) → (z : List ℕ) → Contains xs z → slice_cmp nat_cmp x z ≡ Less
head_below x xs ascends z has =
    ap (slice_cmp nat_cmp x) (sym has.2) ∙ ascends zero (suc has.0) z (suc-le-suc zero-le) (suc-le-suc has.1)

tail_ascends : (x : List ℕ) (xs : List (List ℕ)) → IsAscending (x ∷ xs) → IsAscending xs
tail_ascends x xs ascends = λ i j d before below. ascends (suc i) (suc j) d (suc-le-suc before) (suc-le-suc below)

not_both : (x y : List ℕ) → slice_cmp nat_cmp x y ≡ Less → slice_cmp nat_cmp y x ≡ Less → ⊥
not_both x y p q = let clash : Less ≡ Greater = sym p ∙ nat_list_cmp_total.antisymm x y ∙ ap ordering_reverse q in absurd (cc)

not_itself : (x : List ℕ) → slice_cmp nat_cmp x x ≡ Less → ⊥
not_itself x p = not_both x x p p

tail_members : (x : List ℕ) (xs ys : List (List ℕ)) → IsAscending (x ∷ xs) → ((z : List ℕ) → Contains (x ∷ xs) z → Contains (x ∷ ys) z) → (z : List ℕ) → Contains xs z → Contains ys z
tail_members x xs ys ascends there' z has = elim (first_or_later x z ys (there' z (there x z xs has))) [
  | inl first ↦ absurd (not_itself x (subst (λ w. slice_cmp nat_cmp x w ≡ Less) (sym first) (head_below x xs ascends z has)))
  | inr later ↦ later
]

pub one_ascending : (xs ys : List (List ℕ)) → IsAscending xs → IsAscending ys → ((z : List ℕ) → Contains xs z → Contains ys z) → ((z : List ℕ) → Contains ys z → Contains xs z) → xs ≡ ys
one_ascending [] [] p q there' back' = refl
one_ascending [] (y ∷ ys) p q there' back' = absurd (no_element y (back' y (here y ys)))
one_ascending (x ∷ xs) [] p q there' back' = absurd (no_element x (there' x (here x xs)))
one_ascending (x ∷ xs) (y ∷ ys) p q there' back' =
    let same : x ≡ y = elim (first_or_later y x ys (there' x (here x xs))) [
      | inl first ↦ sym first
      | inr later ↦ elim (first_or_later x y xs (back' y (here y ys))) [
        | inl first ↦ first
        | inr after ↦ absurd (not_both x y (head_below x xs p y after) (head_below y ys q x later))
      ]
    ] in
    let q' : IsAscending (x ∷ ys) = subst (λ w. IsAscending (w ∷ ys)) (sym same) q in
    let rest = one_ascending xs ys (tail_ascends x xs p) (tail_ascends y ys q)
    (tail_members x xs ys p (λ z has. subst (λ w. Contains (w ∷ ys) z) (sym same) (there' z has)))
    (tail_members x ys xs q' (λ z has. back' z (subst (λ w. Contains (w ∷ ys) z) same has))) in
    ap (λ w. w ∷ xs) same ∙ ap (λ zs. y ∷ zs) rest

-- a list of results is determined by its URLs and the page of each
pub results_from_urls : (meaning : List ℕ → Page) (results : List PageResult) → AllByRecursion (λ r. r.page ≡ meaning r.url) results → results ≡ map (λ url. record { url = url; page = meaning url }) (result_urls results)
results_from_urls meaning [] means = refl
results_from_urls meaning (r ∷ rs) means = grind (arith, nat_tests, results_from_urls meaning rs)

pub one_crawl : (meaning : List ℕ → Page) (allowed : List ℕ → Bool) (seeds : List (List ℕ)) (pages others : List PageResult) → IsCrawl meaning allowed seeds pages → IsCrawl meaning allowed seeds others → pages ≡ others
one_crawl meaning allowed seeds pages others own other =
    results_from_urls meaning pages (recursion_from_All (λ (r : PageResult). r.page ≡ meaning r.url) pages own.means)
    ∙ ap (map (λ (url : List ℕ). record { url = url; page = meaning url })) (one_ascending (result_urls pages) (result_urls others) own.ascends other.ascends
    (λ url has. (other.reached url).1 ((own.reached url).0 has))
    (λ url has. (own.reached url).1 ((other.reached url).0 has)))
    ∙ sym (results_from_urls meaning others (recursion_from_All (λ (r : PageResult). r.page ≡ meaning r.url) others other.means))
