-- The links that pass a test.
use Rattle.site_check.proofs.Prelude.{◌≡◌, ◌∙◌, ℕ, ◌+◌, ◌^◌, ◌<◌, ◌≤◌, Bool, true, false, List, [], ◌∷◌, ◌++◌, length, take, get_or, count_by, ap, arith, Bor, pointed, one_if}
use Rattle.std.proofs.Common.{◌*◌, take_all}
use Rattle.std.proofs.lemmas.List.Sums.{sum_by-append, sum_by-cons}
use Rattle.crawl_sources.proofs.Counts.{pointed_more}

count_next : (test : List ℕ → Bool) (xs : List (List ℕ)) (x : List ℕ) → count_by test (xs ++ x ∷ []) ≡ count_by test xs + one_if (test x)
count_next test xs x =
    let all : count_by test (xs ++ x ∷ []) ≡ count_by test xs + count_by test (x ∷ []) = sum_by-append (λ u. one_if (test u)) xs (x ∷ []) in
    let one : count_by test (x ∷ []) ≡ one_if (test x) + 0 = sum_by-cons (λ u. one_if (test u)) x [] in
    omega (arith, all, one)

-- one URL more, which is counted if it passes the test
pub count_more : (test : List ℕ → Bool) (urls : List (Bor (List ℕ))) (i n k : ℕ) (url : Bor (List ℕ)) (is : Bool) → i < length urls → url ≡ get_or urls i url → k ≡ one_if is → is ≡ test url.now →
    n ≡ count_by test (pointed (take i urls)) → n + k ≡ count_by test (pointed (take (i + 1) urls))
count_more test urls i n k url is below at one tested so_far =
    let next : count_by test (pointed (take (i + 1) urls)) ≡ count_by test (pointed (take i urls)) + one_if (test url.now) =
    ap (count_by test) (pointed_more urls i url below at) ∙ count_next test (pointed (take i urls)) url.now in
    let own : k ≡ one_if (test url.now) = one ∙ ap one_if tested in
    omega (arith, next, own, so_far)

pub count_end : (test : List ℕ → Bool) (urls : List (Bor (List ℕ))) (i n : ℕ) → length urls ≤ i → n ≡ count_by test (pointed (take i urls)) → n ≡ count_by test (pointed urls)
count_end test urls i n past so_far = so_far ∙ ap (λ l. count_by test (pointed l)) (take_all i urls past)

one_fits : (is : Bool) → one_if is ≤ 1
one_fits true = omega arith
one_fits false = omega arith

-- no more are counted than there are
pub count_fits : (i n k : ℕ) (is : Bool) → k ≡ one_if is → n ≤ i → n + k ≤ i + 1
count_fits i n k is one fits = omega (arith, one, fits, one_fits is)

-- a sum of numbers of 64 bits
pub sum_fits : (n k i all : ℕ) → n ≤ i * 2 ^ 64 → k < 2 ^ 64 → i < all → all < 2 ^ 64 → n + k < 2 ^ 128
sum_fits n k i all so_far one within few = omega (arith, so_far, one, within, few)

pub sum_next : (n k i : ℕ) → n ≤ i * 2 ^ 64 → k < 2 ^ 64 → n + k ≤ (i + 1) * 2 ^ 64
sum_next n k i so_far one = omega (arith, so_far, one)
