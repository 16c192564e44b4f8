-- The candidates of a `srcset` over runs of bytes.
use Rattle.html_links.proofs.Prelude.{◌≡◌, ℕ, ◌+◌, ◌<◌, ◌≤◌, ◌==◌, ◌||◌, Bool, true, false, not, cond, List, [], ◌∷◌, ◌++◌, length, refl, ap, sym, ◌∙◌, arith, append_assoc, append-nil, eqb-true, eqb-false, false_from_ne_true, cond-true, cond-false, not-false, not-true, front, following, is_space, Stopped}
use Rattle.html_links.proofs.Jumps.{stopped, shorter}
use Rattle.html_links.specs.Candidates.{Between, Url, Next, Go, are_commas, without_commas, is_between, is_unspaced, after_url, after_shorter, step, follow, read, candidates_of}

abbrev on : List ℕ → Next → List (List ℕ)
on rest next = follow next (λ s. read s rest)

-- a run is cut at its first byte that fails the test

pub front_shorter : (test : ℕ → Bool) (bytes : List ℕ) → length (front test bytes) + length (following test bytes) ≡ length bytes
front_shorter test [] = refl
front_shorter test (c ∷ rest) = grind (arith, front_shorter test rest)

pub front_all : (test : ℕ → Bool) (bytes : List ℕ) → following test bytes ≡ [] → front test bytes ≡ bytes
front_all test [] none = refl
front_all test (c ∷ rest) none = all_at (test c) c rest (front test rest) (following test rest) (front_all test rest) none
  where
    all_at : (b : Bool) (c : ℕ) (rest some more : List ℕ) → (more ≡ [] → some ≡ rest) → cond b more (c ∷ rest) ≡ [] → cond b (c ∷ some) [] ≡ c ∷ rest
    all_at true c rest some more e none = ap (λ t. c ∷ t) (e none)
    all_at false c rest some more e none = absurd (cc)

-- between candidates

pub between_run : (bytes : List ℕ) → read Between bytes ≡ read Between (following is_between bytes)
between_run [] = refl
between_run (c ∷ rest) = grind (arith, cond-true, between_run rest)

-- a URL

url_at : (b : Bool) (url : List ℕ) (c : ℕ) (rest some more : List ℕ) → (not b ≡ true → step (Url url) c ≡ Go [] (Url (url ++ c ∷ []))) →
    read (Url (url ++ c ∷ [])) rest ≡ read (Url ((url ++ c ∷ []) ++ some)) more →
    read (Url url) (c ∷ rest) ≡ read (Url (url ++ cond (not b) (c ∷ some) [])) (cond (not b) more (c ∷ rest))
url_at false url c rest some more stays later = ap (on rest) (stays refl) ∙ later ∙ ap (λ u. read (Url u) more) (append_assoc url (c ∷ []) some)
url_at true url c rest some more stays later = ap (λ u. read (Url u) (c ∷ rest)) (sym (append-nil url))

pub url_run : (url bytes : List ℕ) → read (Url url) bytes ≡ read (Url (url ++ front is_unspaced bytes)) (following is_unspaced bytes)
url_run url [] = ap (λ u. read (Url u) []) (sym (append-nil url))
url_run url (c ∷ rest) =
    url_at (is_space c) url c rest (front is_unspaced rest) (following is_unspaced rest)
    (λ e. cond-false (is_space c) (Go (without_commas url ∷ []) (after_url url)) (Go [] (Url (url ++ c ∷ []))) (not-true (is_space c) e)) (url_run (url ++ c ∷ []) rest)

-- a byte of a candidate is not white space

either : (a b : Bool) → a || b ≡ false → a ≡ false
either a b e = grind arith

start_at : (b : Bool) (c : ℕ) (rest some more : List ℕ) → b ≡ false → step Between c ≡ Go [] (Url (c ∷ [])) → read (Url (c ∷ [])) rest ≡ read (Url (c ∷ some)) more →
    read Between (c ∷ rest) ≡ read (Url (cond (not b) (c ∷ some) [])) (cond (not b) more (c ∷ rest))
start_at b c rest some more isnt steps later = grind arith

pub start_url : (start : List ℕ) → Stopped is_between start → 0 < length (front is_unspaced start) → read Between start ≡ read (Url (front is_unspaced start)) (following is_unspaced start)
start_url start stop some = grind (arith, start_at, either, cond-false, url_run)

-- white space after a URL

pub url_end : (url more : List ℕ) → Stopped is_unspaced more → read (Url url) more ≡ without_commas url ∷ read (after_url url) more
url_end url more stop = grind (arith, not-false, cond-true, cond-false, false_from_ne_true, eqb-true)

-- commas at the end

commas_last : (bytes : List ℕ) → are_commas (bytes ++ 44 ∷ []) ≡ are_commas bytes
commas_last [] = refl
commas_last (c ∷ rest) = ap (λ b. cond (c == 44) b false) (commas_last rest)

pub one_comma : (bytes : List ℕ) → without_commas (bytes ++ 44 ∷ []) ≡ without_commas bytes
one_comma [] = refl
one_comma (c ∷ rest) = ap (λ b. cond (cond (c == 44) b false) [] (c ∷ without_commas (rest ++ 44 ∷ []))) (commas_last rest) ∙ ap (λ t. cond (are_commas (c ∷ rest)) [] (c ∷ t)) (one_comma rest)

no_commas : (bytes : List ℕ) (x : ℕ) → (x == 44) ≡ false → are_commas (bytes ++ x ∷ []) ≡ false
no_commas [] x other = grind arith
no_commas (c ∷ rest) x other = grind (arith, no_commas rest x)

pub no_comma : (bytes : List ℕ) (x : ℕ) → (x == 44) ≡ false → without_commas (bytes ++ x ∷ []) ≡ bytes ++ x ∷ []
no_comma [] x other = ap (λ b. cond b [] (x ∷ [])) (no_commas [] x other)
no_comma (c ∷ rest) x other = ap (λ b. cond b [] (c ∷ without_commas (rest ++ x ∷ []))) (no_commas (c ∷ rest) x other) ∙ ap (λ t. c ∷ t) (no_comma rest x other)

-- one candidate

pub no_candidate : (bytes start word : List ℕ) → start ≡ following is_between bytes → Stopped is_between start → word ≡ front is_unspaced start → (length word == 0) ≡ true → candidates_of bytes ≡ []
no_candidate bytes start word cut stop some none = grind (arith, between_run, eqb-true, either)

pub one_candidate : (bytes start word more url left : List ℕ) → start ≡ following is_between bytes → Stopped is_between start → word ≡ front is_unspaced start → more ≡ following is_unspaced start →
    (length word == 0) ≡ false → url ≡ without_commas word → read (after_shorter url word) more ≡ read Between left → candidates_of bytes ≡ url ∷ candidates_of left
one_candidate bytes start word more url left cut stop some rest there trimmed later = grind (arith, between_run, start_url, eqb-false, url_end, stopped)

pub candidate_less : (bytes start word more left : List ℕ) → start ≡ following is_between bytes → word ≡ front is_unspaced start → more ≡ following is_unspaced start →
    (length word == 0) ≡ false → length left ≤ length more → length left < length bytes
candidate_less bytes start word more left cut some rest there le = grind (arith, eqb-false, front_shorter, shorter)

pub kept : (url front : List ℕ) (last : ℕ) → url ≡ front ++ last ∷ [] → (last ≡ 44 → ⊥) → without_commas url ≡ url
kept url front last is other = ap without_commas is ∙ no_comma front last (false_from_ne_true (last == 44) (λ e. other (eqb-true last 44 e))) ∙ sym is
