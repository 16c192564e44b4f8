-- Suffixes in order are the suffixes given.
use Rattle.crawl_keys.proofs.Prelude.{◌≡◌, ◌↔◌, ℕ, Bool, true, false, ◌||◌, List, [], ◌∷◌, Ok, Result, refl, ap, sym, subst, ◌∙◌, fold, bytes_eq, Contains, insert_key, slice_cmp, nat_list_eq_equiv, list_any, nat_cmp, match_ordering, bytes_eq-Decides, or-false, allows, in_order, is_within, host_key}
use Rattle.std.proofs.Common.{Ordering, Less, Equal, Greater}
use Rattle.std.proofs.lemmas.Map.Lookups.{exact_bytes}
use Rattle.std.proofs.lemmas.Map.Views.{Contains-from_any, list_any-from_Contains}
use Rattle.crawl_keys.specs.declared.filter.error.FilterError.{FilterError}

-- whether some text passes a test, with one more text
pub list_any-insert_key : (test : List ℕ → Bool) (texts : List (List ℕ)) (text : List ℕ) → list_any test (insert_key (slice_cmp nat_cmp) texts text) ≡ (list_any test texts || test text)
list_any-insert_key test [] text = or-false (test text)
list_any-insert_key test (x ∷ more) text = at_order (slice_cmp nat_cmp text x) refl (list_any-insert_key test more text)
  where
    swapped : (a b c : Bool) → (a || (b || c)) ≡ ((b || c) || a)
    swapped true true c = refl
    swapped true false true = refl
    swapped true false false = refl
    swapped false true c = refl
    swapped false false true = refl
    swapped false false false = refl

    again : (a b : Bool) → (a || b) ≡ ((a || b) || a)
    again true b = refl
    again false true = refl
    again false false = refl

    later : (a b c : Bool) → (a || (b || c)) ≡ ((a || b) || c)
    later true b c = refl
    later false b c = refl

    at_order : (order : Ordering) → slice_cmp nat_cmp text x ≡ order → list_any test (insert_key (slice_cmp nat_cmp) more text) ≡ (list_any test more || test text)
        → list_any test (match_ordering order (text ∷ x ∷ more) (x ∷ more) (x ∷ insert_key (slice_cmp nat_cmp) more text)) ≡ (list_any test (x ∷ more) || test text)
    at_order Less is rest = swapped (test text) (test x) (list_any test more)
    at_order Equal is rest =
        let same : test x ≡ test text = ap test (sym (exact_bytes text x is)) in
        again (test x) (list_any test more) ∙ ap (λ b. (test x || list_any test more) || b) same
    at_order Greater is rest = ap (λ b. test x || b) rest ∙ later (test x) (list_any test more) (test text)

-- likewise with several more
pub list_any-fold : (test : List ℕ → Bool) (texts more : List (List ℕ)) → list_any test (fold (insert_key (slice_cmp nat_cmp)) texts more) ≡ (list_any test texts || list_any test more)
list_any-fold test texts [] = sym (or-false (list_any test texts))
list_any-fold test texts (text ∷ more) =
    list_any-fold test (insert_key (slice_cmp nat_cmp) texts text) more
    ∙ ap (λ b. b || list_any test more) (list_any-insert_key test texts text)
    ∙ grouped (list_any test texts) (test text) (list_any test more)
  where
    grouped : (a b c : Bool) → ((a || b) || c) ≡ (a || (b || c))
    grouped true b c = refl
    grouped false b c = refl

-- some suffix in order passes a test if and only if some given suffix does
pub list_any-in_order : (test : List ℕ → Bool) (suffixes : List (List ℕ)) → list_any test (in_order suffixes) ≡ list_any test suffixes
list_any-in_order test suffixes = list_any-fold test [] suffixes

-- the suffixes in order are the given ones
pub Contains-in_order : (suffixes : List (List ℕ)) (suffix : List ℕ) → Contains (in_order suffixes) suffix ↔ Contains suffixes suffix
Contains-in_order suffixes suffix = (
  λ kept. Contains-from_any same suffix suffixes (sym (list_any-in_order (bytes_eq suffix) suffixes) ∙ list_any-from_Contains nat_list_eq_equiv suffix (in_order suffixes) kept),
  λ given. Contains-from_any same suffix (in_order suffixes) (list_any-in_order (bytes_eq suffix) suffixes ∙ list_any-from_Contains nat_list_eq_equiv suffix suffixes given),
)
  where
    same : (x y : List ℕ) → bytes_eq x y ≡ true → x ≡ y
    same x y is = (bytes_eq-Decides x y).0 is

-- and allow the same URLs
pub allows-in_order : (suffixes : List (List ℕ)) (url : List ℕ) → allows (in_order suffixes) url ≡ allows suffixes url
allows-in_order [] url = refl
allows-in_order (suffix ∷ more) url = at_some (in_order (suffix ∷ more)) (list_any-in_order (λ _. true) (suffix ∷ more)) ∙ list_any-in_order (is_within (host_key url)) (suffix ∷ more)
  where
    at_some : (kept : List (List ℕ)) → list_any (λ _. true) kept ≡ true → allows kept url ≡ list_any (is_within (host_key url)) kept
    at_some [] some = cc
    at_some (x ∷ xs) some = refl

-- the stored suffixes are the given ones
pub Contains-kept : (given kept : List (List ℕ)) → ◌≡◌ {A = Result (List (List ℕ)) FilterError} (Ok (in_order given)) (Ok kept) → (suffix : List ℕ) → Contains kept suffix ↔ Contains given suffix
Contains-kept given kept same suffix =
    let is : in_order given ≡ kept = cc in
    subst (λ texts. Contains texts suffix ↔ Contains given suffix) is (Contains-in_order given suffix)
