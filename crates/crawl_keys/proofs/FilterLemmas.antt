-- A host is within a suffix if a look-up of the host, or of the text after one of its dots, finds the suffix.
use Rattle.crawl_keys.proofs.Prelude.{◌≡◌, ◌≤◌, ◌<◌, ◌+◌, ◌-◌, ℕ, Bool, false, ◌&&◌, ◌||◌, not, List, [], ◌∷◌, ◌++◌, map, length, drop, suc, refl, ap, sym, ◌∙◌, ⊎_elim, arith, cond, String, Global, cases_order, false_from_ne_true, and_right, cases_Bool, or-false, bytes_eq-Decides, bytes_eq, string_bytes, nat_eq, codes, insert_key, length-map, ends_with, list_any, after_first, position_or_len, position, nat_cmp, is_eq, slice_cmp, is_dot, is_within}
use Rattle.std.proofs.lemmas.Map.Text.{is_eq-slice_cmp}
use Rattle.std.specs.String.{string_cmp}

-- texts of different lengths differ
pub bytes_eq-lengths : (xs ys : List ℕ) → (length xs ≡ length ys → ⊥) → bytes_eq xs ys ≡ false
bytes_eq-lengths xs ys apart = grind (arith, false_from_ne_true, bytes_eq-Decides)

-- comparing two texts gives the same result in either order
pub bytes_eq-comm : (xs ys : List ℕ) → bytes_eq xs ys ≡ bytes_eq ys xs
bytes_eq-comm xs ys = grind (arith, bytes_eq-Decides, false_from_ne_true, cases_Bool)

-- the suffix is the text after one of the text's dots
abbrev pub is_after_dot : List ℕ → List ℕ → Bool
is_after_dot [] suffix = false
is_after_dot (b ∷ more) suffix = is_dot b && bytes_eq more suffix || is_after_dot more suffix

-- a text has no suffix after a dot if the text is not longer than the suffix
pub is_after_dot-short : (text suffix : List ℕ) → length text ≤ length suffix → is_after_dot text suffix ≡ false
is_after_dot-short [] suffix short = refl
is_after_dot-short (b ∷ more) suffix short = grind (arith, bytes_eq-lengths, and_right, is_after_dot-short more suffix)

-- the last bytes of a text are those of its rest, if the rest is long enough
pub drop-longer : (b : ℕ) (more : List ℕ) (n : ℕ) → n < length more → drop (length (b ∷ more) - suc n) (b ∷ more) ≡ drop (length more - suc n) more
drop-longer b more n longer = grind arith

-- a text that ends with a dot and a suffix has the suffix after one of its dots
pub ends_with-dot : (text suffix : List ℕ) → ends_with nat_eq text (codes "." ++ suffix) ≡ is_after_dot text suffix
ends_with-dot [] suffix =
    let none : 0 - suc (length suffix) ≡ 0 = omega arith in
    rw none refl
ends_with-dot (b ∷ more) suffix =
    ⊎_elim (λ same. whole b more suffix same)
    (λ apart. ⊎_elim (λ shorter. short b more suffix shorter) (λ longer. long b more suffix longer (ends_with-dot more suffix)) apart)
    (cases_order (length more) (length suffix))
  where
    at_start : (b : ℕ) (more suffix : List ℕ) → length more ≤ length suffix → ends_with nat_eq (b ∷ more) (46 ∷ suffix) ≡ bytes_eq (b ∷ more) (46 ∷ suffix)
    at_start b more suffix few =
        let none : length (b ∷ more) - length (46 ∷ suffix) ≡ 0 = omega arith in
        rw none (bytes_eq-comm (46 ∷ suffix) (b ∷ more))

    whole : (b : ℕ) (more suffix : List ℕ) → length more ≡ length suffix → ends_with nat_eq (b ∷ more) (46 ∷ suffix) ≡ is_after_dot (b ∷ more) suffix
    whole b more suffix same =
        at_start b more suffix (omega arith)
        ∙ rw (is_after_dot-short more suffix (omega arith)) (sym (or-false (is_dot b && bytes_eq more suffix)))

    short : (b : ℕ) (more suffix : List ℕ) → length more < length suffix → ends_with nat_eq (b ∷ more) (46 ∷ suffix) ≡ is_after_dot (b ∷ more) suffix
    short b more suffix shorter =
        at_start b more suffix (omega arith) ∙ bytes_eq-lengths (b ∷ more) (46 ∷ suffix) (λ same. absurd (omega arith))
        ∙ sym (is_after_dot-short (b ∷ more) suffix (omega arith))

    long : (b : ℕ) (more suffix : List ℕ) → length suffix < length more → ends_with nat_eq more (46 ∷ suffix) ≡ is_after_dot more suffix → ends_with nat_eq (b ∷ more) (46 ∷ suffix) ≡ is_after_dot (b ∷ more) suffix
    long b more suffix longer rest =
        ap (λ s. bytes_eq (46 ∷ suffix) s) (drop-longer b more (length suffix) longer)
        ∙ rest ∙ rw (bytes_eq-lengths more suffix (λ same. absurd (omega arith)), and_right (is_dot b) false refl) refl

-- some element passes one of two tests if and only if some element passes the first or some element passes the second
pub list_any-or : {A : Type 0} (p q : A → Bool) (xs : List A) → list_any (λ x. p x || q x) xs ≡ (list_any p xs || list_any q xs)
list_any-or p q [] = refl
list_any-or p q (x ∷ xs) = grind (arith, list_any-or p q xs)

-- tests that agree give the same result
pub list_any-same : {A : Type 0} (p q : A → Bool) → ((x : A) → p x ≡ q x) → (xs : List A) → list_any p xs ≡ list_any q xs
list_any-same p q same [] = refl
list_any-same p q same (x ∷ xs) = rw (same x, list_any-same p q same xs) refl

-- a look-up in a set of strings finds the bytes of its strings
pub list_any-contains : (text : List ℕ) (strings : List (String Global)) → list_any (λ s. is_eq (slice_cmp nat_cmp text (string_bytes s))) strings ≡ list_any (bytes_eq text) (map string_bytes strings)
list_any-contains text [] = refl
list_any-contains text (s ∷ more) = rw (is_eq-slice_cmp text (string_bytes s), list_any-contains text more) refl

-- inserting a string among strings inserts its bytes among theirs
pub map-insert_key : (string : String Global) (strings : List (String Global)) → map string_bytes (insert_key string_cmp strings string) ≡ insert_key (slice_cmp nat_cmp) (map string_bytes strings) (string_bytes string)
map-insert_key string [] = refl
map-insert_key string (s ∷ more) = grind (arith, map-insert_key string more)

-- a suffix is after the first dot, or after a later one
pub is_after_dot-first : (text suffix : List ℕ) → position_or_len is_dot text < length text → is_after_dot text suffix ≡ (bytes_eq (after_first is_dot text) suffix || is_after_dot (after_first is_dot text) suffix)
is_after_dot-first [] suffix within = absurd (omega arith)
is_after_dot-first (b ∷ more) suffix within = grind (arith, cases_Bool, is_after_dot-first more)

-- a text with no dot has no suffix after a dot
pub is_after_dot-none : (text suffix : List ℕ) → position_or_len is_dot text ≡ length text → is_after_dot text suffix ≡ false
is_after_dot-none [] suffix all = refl
is_after_dot-none (b ∷ more) suffix all = grind (arith, cases_Bool, is_after_dot-none more)

-- a host is within some suffix if and only if it is a suffix or has one after a dot
pub list_any-within : (host : List ℕ) (suffixes : List (List ℕ)) → list_any (is_within host) suffixes ≡ (list_any (bytes_eq host) suffixes || list_any (is_after_dot host) suffixes)
list_any-within host suffixes =
    list_any-or (bytes_eq host) (λ suffix. ends_with nat_eq host (codes "." ++ suffix)) suffixes
    ∙ ap (λ b. list_any (bytes_eq host) suffixes || b) (list_any-same _ _ (ends_with-dot host) suffixes)

-- some suffix is after a dot of the text if and only if the text after the first dot is a suffix or has one after a dot
pub following-first : (text following : List ℕ) (suffixes : List (List ℕ)) → position_or_len is_dot text < length text → following ≡ after_first is_dot text → list_any (is_after_dot text) suffixes ≡ (list_any (bytes_eq following) suffixes || list_any (is_after_dot following) suffixes)
following-first text following suffixes within cut =
    list_any-same _ _ (λ suffix. is_after_dot-first text suffix within) suffixes
    ∙ list_any-or (bytes_eq (after_first is_dot text)) (is_after_dot (after_first is_dot text)) suffixes
    ∙ (λ i. list_any (bytes_eq (sym cut i)) suffixes || list_any (is_after_dot (sym cut i)) suffixes)

-- a text with no dot has no suffix after one
pub following-none : (text : List ℕ) (suffixes : List (List ℕ)) → position_or_len is_dot text ≡ length text → list_any (is_after_dot text) suffixes ≡ false
following-none text [] all = refl
following-none text (suffix ∷ more) all = rw (is_after_dot-none text suffix all) (following-none text more all)

-- an index among the values of a list is the index in the list
pub position-map : {A B : Type 0} (p : B → Bool) (f : A → B) (xs : List A) → position p (map f xs) ≡ position (λ x. p (f x)) xs
position-map p f xs = rw (place p f xs, length-map xs f) refl
  where
    place : {A B : Type 0} (p : B → Bool) (f : A → B) (xs : List A) → position_or_len p (map f xs) ≡ position_or_len (λ x. p (f x)) xs
    place p f [] = refl
    place p f (x ∷ xs) = ap (λ n. cond (not (p (f x))) (1 + n) 0) (place p f xs)
