-- URLs that two results have.
use Rattle.crawl_certificate.proofs.Prelude.{common_steps, ◌≡◌, inl, inr, ℕ, ◌+◌, Bool, true, false, cond, ◌||◌, ◌&&◌, not, List, [], ◌∷◌, ◌++◌, Option, None, is_some, refl, sym, ap, subst, ◌∙◌, arith, nat_tests, list_any, count_by, bytes_eq, cases_lt, and_parts, and_from, or_cases, or_left, or_right, both_ways, true_from_ne_false, lt-ltb, ltb-true, sum_by-append, sum_by-cons, Entry, PageResult, has_result, is_accepted, twice, is_a_stray, is_twice, IsLeast, url_if, lesser}
use Rattle.std.proofs.Math.Dec.{ltb}
use Rattle.crawl_certificate.proofs.LeastUrls.{same_bool, by_test, only_one, least_of_both, lesser_none, at_urls, some_least}
use Rattle.crawl_certificate.proofs.Lists.{same_text, text_itself}

-- ---- counts

count_append : {X : Type 0} (p : X → Bool) (xs ys : List X) → count_by p (xs ++ ys) ≡ count_by p xs + count_by p ys
count_append p xs ys = sum_by-append (λ x. cond (p x) 1 0) xs ys

count_more : {X : Type 0} (p : X → Bool) (x : X) (xs : List X) → count_by p (x ∷ xs) ≡ cond (p x) 1 0 + count_by p xs
count_more p x xs = sum_by-cons (λ y. cond (p y) 1 0) x xs

one_count : (b : Bool) → ltb 0 (cond b 1 0) ≡ b
one_count b = grind arith

-- the sum of two numbers
some_of : (a b : ℕ) → ltb 0 (a + b) ≡ (ltb 0 a || ltb 0 b)
some_of a b = grind arith

two_of : (a b : ℕ) → ltb 1 (a + b) ≡ ((ltb 1 a || ltb 1 b) || (ltb 0 a && ltb 0 b))
two_of a b = grind (arith, same_bool, ltb-true, cases_lt, or_left, lt-ltb, or_right, and_from, or_cases, ltb, and_parts)

any_counts : {X : Type 0} (p : X → Bool) (xs : List X) → list_any p xs ≡ ltb 0 (count_by p xs)
any_counts p [] = refl
any_counts p (x ∷ xs) = grind (arith, nat_tests, any_counts p xs, one_count, some_of, ltb, count_more)

-- ---- results

-- two results of two lists have a URL if and only if two results of one list have it, or one result of each list has it
pub twice_of_both : (xs ys : List PageResult) (url : List ℕ) → is_twice (xs ++ ys) url ≡ ((is_twice xs url || is_twice ys url) || (has_result xs url && has_result ys url))
twice_of_both xs ys url = grind (arith, ltb, count_append, two_of, any_counts)

-- one more result
pub twice_push : (xs : List PageResult) (r : PageResult) (url : List ℕ) → is_twice (xs ++ r ∷ []) url ≡ (is_twice xs url || (bytes_eq r.url url && has_result xs url))
twice_push xs r url = grind (arith, ltb, count_append, two_of, any_counts)

-- one more result, if no result has a stray URL
pub least_twice : (xs : List PageResult) (r : PageResult) (stray of_one least again : Option (List ℕ)) → (stray ≡ None → IsLeast (is_twice xs) least) → (of_one ≡ None → again ≡ url_if (has_result xs r.url) r.url) → lesser stray of_one ≡ None → IsLeast (is_twice (xs ++ r ∷ [])) (lesser least again)
least_twice xs r stray of_one least again before now none =
    let parts = lesser_none stray of_one none in
    let one : IsLeast (λ u. bytes_eq r.url u && has_result xs u) again = subst (IsLeast (λ u. bytes_eq r.url u && has_result xs u)) (sym (now parts.1)) (only_one r.url (has_result xs)) in
    by_test _ _ (lesser least again) (λ u. sym (twice_push xs r u)) (least_of_both (is_twice xs) (λ u. bytes_eq r.url u && has_result xs u) least again (before parts.0) one)

-- ---- two lists

-- if no result of the first list has a stray URL, a URL that two lists share is the URL of an entry
shared_url : (entries : List Entry) (xs ys : List PageResult) → ((u : List ℕ) → is_a_stray entries xs u ≡ false) → (url : List ℕ) → list_any (λ e. bytes_eq e.url url && (has_result xs e.url && has_result ys e.url)) entries ≡ (has_result xs url && has_result ys url)
shared_url entries xs ys none url =
    let both : List ℕ → Bool = λ u. has_result xs u && has_result ys u in
    at_urls (λ (e : Entry). e.url) both entries url
    ∙ same_bool _ _
    (λ h. (and_parts (list_any (λ (e : Entry). bytes_eq e.url url) entries) (both url) h).1)
    (λ h. and_from _ _ (accepted (and_parts (has_result xs url) (has_result ys url) h).0) h)
  where
    accepted : has_result xs url ≡ true → list_any (λ (e : Entry). bytes_eq e.url url) entries ≡ true
    accepted has = true_from_ne_false (is_accepted entries url) (λ no. both_ways _ (none url) (and_from _ _ has (ap not no)))

-- the least URL that two results of two lists have
pub least_twice_of_both : (entries : List Entry) (xs ys : List PageResult) (first second both : Option (List ℕ)) → IsLeast (is_a_stray entries xs) None → IsLeast (is_twice xs) first → IsLeast (is_twice ys) second → IsLeast (λ u. list_any (λ e. bytes_eq e.url u && (has_result xs e.url && has_result ys e.url)) entries) both → IsLeast (is_twice (xs ++ ys)) (lesser (lesser first second) both)
least_twice_of_both entries xs ys first second both none p q shared =
    by_test _ _ (lesser (lesser first second) both) (λ u. sym (twice_of_both xs ys u))
    (least_of_both (λ u. is_twice xs u || is_twice ys u) (λ u. has_result xs u && has_result ys u) (lesser first second) both
    (least_of_both (is_twice xs) (is_twice ys) first second p q)
    (by_test _ _ both (shared_url entries xs ys none) shared))

-- ---- whether there is such a URL

-- two results have a URL if and only if the first and a later one have it, or two later ones have it
more_twice : (r : PageResult) (rest : List PageResult) (url : List ℕ) → is_twice (r ∷ rest) url ≡ (is_twice rest url || (bytes_eq r.url url && has_result rest url))
more_twice r rest url = grind (arith, common_steps, ltb, count_more, two_of, any_counts)

some_url_twice : (results : List PageResult) → twice results ≡ true → (u : List ℕ) × (is_twice results u ≡ true)
some_url_twice [] h = absurd (cc)
some_url_twice (r ∷ rest) h = elim (or_cases (has_result rest r.url) (twice rest) h) [
  | inl again ↦ (r.url, more_twice r rest r.url ∙ or_right _ _ (and_from _ _ (text_itself r.url) again))
  | inr later ↦ let u = some_url_twice rest later in (u.0, more_twice r rest u.0 ∙ or_left _ _ u.1)
]

pub url_is_twice : (results : List PageResult) (u : List ℕ) → is_twice results u ≡ true → twice results ≡ true
url_is_twice [] u h = absurd (cc)
url_is_twice (r ∷ rest) u h = elim (or_cases (is_twice rest u) (bytes_eq r.url u && has_result rest u) (sym (more_twice r rest u) ∙ h)) [
  | inl later ↦ or_right _ _ (url_is_twice rest u later)
  | inr here' ↦
      let parts = and_parts (bytes_eq r.url u) (has_result rest u) here' in
      or_left _ _ (subst (λ t. has_result rest t ≡ true) (sym (same_text r.url u parts.0)) parts.1)
]

pub some_twice : (results : List PageResult) (least : Option (List ℕ)) → IsLeast (is_twice results) least → is_some least ≡ twice results
some_twice results least is = some_least (twice results) (is_twice results) least is (some_url_twice results) (url_is_twice results)
