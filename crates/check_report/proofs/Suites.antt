-- Test suites of a report as JUnit XML.
use Rattle.check_report.proofs.Prelude.{Bor, common_steps, ◌≡◌, ℕ, ◌+◌, ◌<◌, ◌≤◌, Bool, true, List, [], ◌∷◌, ◌++◌, append-nil, drop, get_or, length, map, nat_lt, nat_tests, take, ◌||◌, zero, suc, refl, sym, ap, ◌∙◌, arith, append_assoc, IsUtf8, chars-nil, chars_past_char, cond-false, cond-true, cases_Bool, flat_map, flat_map-map, inl, inr, length-prefix_len, prefix_len, Global, String, string_bytes, take-map}
use Rattle.std.proofs.lemmas.List.{drop-drop, drop-map, length-drop, length-map}
use Rattle.std.proofs.lemmas.List.Sums.{prefix_len-le-length}
use Rattle.std.proofs.lemmas.Slice.Eq.{bytes_eq-Decides}
use Rattle.std.specs.Char.{encode_utf8}
use Rattle.std.specs.List.{take_while}
use Rattle.check_report.specs.Junit.{bare_case, bare_suite, first_suite, good_suite, is_in, link_case, no_file, suite_end, suite_len, suite_start, suites, suites_from, unlisted_suite, xml, xml_char}
use Rattle.check_report.specs.Order.{bare_targets, link_of, links_by_file}
use Rattle.check_report.specs.declared.ordered.Link.{Link}
use Rattle.check_report.specs.declared.value.Broken.{Broken}
use Rattle.check_report.specs.declared.value.Place.{Place}

pub xml_put : (old new text rest : List ℕ) (c : ℕ) → IsUtf8 text → text ≡ encode_utf8 c ++ rest → new ≡ old ++ xml_char c → new ++ xml rest ≡ old ++ xml text
unfolding xml
xml_put old new text rest c utf8 is put = grind (arith, common_steps, chars_past_char)

pub xml_none : (text : List ℕ) → length text ≡ 0 → xml text ≡ []
unfolding xml
xml_none [] none = ap (flat_map xml_char) chars-nil
xml_none (b ∷ bs) none = absurd (omega arith)

-- what was put, if nothing is left
pub xml_done : (start out all rest : List ℕ) → length rest ≡ 0 → out ++ xml rest ≡ start ++ xml all → out ≡ start ++ xml all
xml_done start out all rest none so_far = sym (append-nil out) ∙ ap (λ t. out ++ t) (sym (xml_none rest none)) ∙ so_far

-- ---- the suites

some_is : (n : ℕ) → 0 < n → nat_lt 0 n ≡ true
some_is n some = grind (arith, nat_tests)

either_is : (m n : ℕ) → (m ≡ 0 → 0 < n) → (nat_lt 0 m || nat_lt 0 n) ≡ true
either_is m n some = grind (arith, nat_tests)

pub suites_none : (folder : List ℕ) (targets : List (Bor Broken)) (documents : List (String Global)) → length targets ≡ 0 → length documents ≡ 0
    → suites folder (map (λ (t : Bor Broken). t.now) targets) documents ≡ good_suite
suites_none folder [] [] none no_more = refl
suites_none folder [] (document ∷ documents) none no_more = absurd (omega arith)
suites_none folder (target ∷ targets) documents none no_more = absurd (omega arith)

pub suites_some : (folder : List ℕ) (targets : List (Bor Broken)) (documents : List (String Global)) → (length targets ≡ 0 → 0 < length documents)
    → suites folder (map (λ (t : Bor Broken). t.now) targets) documents
    ≡ suites_from folder 0 (links_by_file true (map (λ (t : Bor Broken). t.now) targets)) ++ bare_suite (bare_targets (map (λ (t : Bor Broken). t.now) targets)) ++ unlisted_suite documents
suites_some folder targets documents some =
    let of = λ (t : Bor Broken). t.now in
    cond-true (nat_lt 0 (length (map of targets)) || nat_lt 0 (length documents)) _ _
    (either_is (length (map of targets)) (length documents) (λ none. some (sym (length-map targets of) ∙ none)))

-- ---- the targets without locations

pub no_bare_suite : (bare : List (Bor Broken)) → length bare ≡ 0 → bare_suite (map (λ (t : Bor Broken). t.now) bare) ≡ []
no_bare_suite [] none = refl
no_bare_suite (target ∷ bare) none = absurd (omega arith)

pub some_bare_suite : (bare : List (Bor Broken)) → 0 < length bare
    → bare_suite (map (λ (t : Bor Broken). t.now) bare) ≡ suite_start no_file (length bare) ++ flat_map (λ (t : Bor Broken). bare_case t.now) bare ++ suite_end
some_bare_suite bare some =
    let of = λ (t : Bor Broken). t.now in
    cond-true (nat_lt 0 (length (map of bare))) _ _ (some_is (length (map of bare)) (omega (arith, some, length-map bare of)))
    ∙ (λ i. suite_start no_file (length-map bare of i) ++ flat_map-map bare_case of bare i ++ suite_end)

-- ---- the suite of a file

pub file_suite_of : (folder : List ℕ) (links : List Link) (other : Link) → 0 < length links
    → first_suite folder (map link_of links) ≡ suite_start (string_bytes (get_or links 0 other).place.now.file) (length links) ++ flat_map (λ (l : Link). link_case folder (link_of l)) links ++ suite_end
file_suite_of folder [] other some = absurd (omega arith)
file_suite_of folder (link ∷ links) other some =
    let all = link ∷ links in
    (λ i. suite_start (string_bytes link.place.now.file) (length-map all link_of i) ++ flat_map-map (link_case folder) link_of all i ++ suite_end)

-- ---- the links in one file

while-map : {X Y : Type 0} (p : Y → Bool) (f : X → Y) (xs : List X) → prefix_len p (map f xs) ≡ prefix_len (λ x. p (f x)) xs
while-map p f [] = refl
while-map p f (x ∷ xs) = elim (cases_Bool (p (f x))) [
  | inl is ↦ cond-true (p (f x)) _ _ is ∙ ap (λ n. 1 + n) (while-map p f xs) ∙ sym (cond-true (p (f x)) _ _ is)
  | inr other ↦ cond-false (p (f x)) _ _ other ∙ sym (cond-false (p (f x)) _ _ other)
]

own_file : (link : Broken × Place) → is_in link.1 link ≡ true
own_file link = (bytes_eq-Decides (string_bytes link.1.file) (string_bytes link.1.file)).1 refl

first_more : (link : Broken × Place) (links : List (Broken × Place)) → suite_len (link ∷ links) ≡ suc (length (take_while (is_in link.1) links))
first_more link links =
    length-prefix_len (is_in link.1) (link ∷ links) ∙ cond-true (is_in link.1 link) (1 + prefix_len (is_in link.1) links) 0 (own_file link)
    ∙ number (prefix_len (is_in link.1) links) ∙ ap suc (sym (length-prefix_len (is_in link.1) links))
  where
    number : (n : ℕ) → 1 + n ≡ suc n
    number n = omega arith

pub more_in_file : (links : List Link) (other : Link) (count : ℕ) → 0 < length links → count ≡ length (take_while (λ (l : Link). is_in (get_or links 0 other).place.now (link_of l)) links) → count ≡ suite_len (map link_of links)
more_in_file [] other count some is = absurd (omega arith)
more_in_file (link ∷ links) other count some is =
    is ∙ length-prefix_len (λ (l : Link). is_in link.place.now (link_of l)) (link ∷ links) ∙ sym (while-map (is_in link.place.now) link_of (link ∷ links))
    ∙ sym (length-prefix_len (is_in link.place.now) (map link_of (link ∷ links)))

-- a suite has one link at least, and no more than there are
pub suite_some : (links : List Link) → 0 < length links → 0 < suite_len (map link_of links)
suite_some [] some = absurd (omega arith)
suite_some (link ∷ links) some = omega (arith, first_more (link_of link) (map link_of links))

pub front_some : (links front : List Link) (count : ℕ) → front ≡ take count links → count ≡ suite_len (map link_of links) → 0 < length links → 0 < length front
front_some [] front count cut is some = absurd (omega arith)
front_some (link ∷ links) front count cut is some =
    let number = is ∙ first_more (link_of link) (map link_of links) in
    let long : length front ≡ suc (length (take (length (take_while (is_in link.place.now) (map link_of links))) links)) = ap length (cut ∙ ap (λ n. take n (link ∷ links)) number) in
    omega (arith, long)

pub suite_fits : (links : List Link) → suite_len (map link_of links) ≤ length links
suite_fits [] = omega arith
suite_fits (link ∷ links) =
    omega (arith, length-prefix_len (is_in link.place.now) (map link_of (link ∷ links)), prefix_len-le-length (is_in link.place.now) (map link_of (link ∷ links)), length-map (link ∷ links) link_of)

no_suites : (folder : List ℕ) (links : List Link) → length links ≡ 0 → suites_from folder 0 (map link_of links) ≡ []
no_suites folder [] none = refl
no_suites folder (link ∷ links) none = absurd (omega arith)

suites_skip : (folder : List ℕ) (skipped : ℕ) (links : List (Broken × Place)) → suites_from folder skipped links ≡ suites_from folder 0 (drop skipped links)
suites_skip folder zero [] = refl
suites_skip folder (suc skipped) [] = refl
suites_skip folder zero (link ∷ links) = refl
suites_skip folder (suc skipped) (link ∷ links) = suites_skip folder skipped links

one_suite : (folder : List ℕ) (links : List (Broken × Place)) (count : ℕ) → 0 < length links → count ≡ suite_len links → suites_from folder 0 links ≡ first_suite folder (take count links) ++ suites_from folder 0 (drop count links)
one_suite folder [] count some is = absurd (omega arith)
one_suite folder (link ∷ links) count some is =
    let own = take_while (is_in link.1) links in
    let number : count ≡ suc (length own) = is ∙ first_more link links in
    let long = length-prefix_len (is_in link.1) links in
    ap (λ rest. first_suite folder (link ∷ own) ++ rest) (suites_skip folder (length own) links)
    ∙ ap (λ n. first_suite folder (link ∷ take n links) ++ suites_from folder 0 (drop (length own) links)) (sym long)
    ∙ ap (λ n. first_suite folder (take n (link ∷ links)) ++ suites_from folder 0 (drop n (link ∷ links))) (sym number)

pub suites_put : (folder out new all : List ℕ) (links : List Link) (count : ℕ) → count ≡ suite_len (map link_of links) → 0 < length links → out ++ suites_from folder 0 (map link_of links) ≡ all
    → new ≡ out ++ first_suite folder (map link_of (take count links)) → new ++ suites_from folder 0 (map link_of (drop count links)) ≡ all
suites_put folder out new all links count is some so_far put =
    let rest = suites_from folder 0 (map link_of (drop count links)) in
    ap (λ t. t ++ rest) put ∙ append_assoc out (first_suite folder (map link_of (take count links))) rest
    ∙ ap (λ t. out ++ t)
    ((λ i. first_suite folder (sym (take-map link_of count links) i) ++ suites_from folder 0 (sym (drop-map link_of count links) i))
    ∙ sym (one_suite folder (map link_of links) count (omega (arith, some, length-map links link_of)) is))
    ∙ so_far

-- likewise, from an index on
pub suite_put_at : (folder old new : List ℕ) (links rest suite : List Link) (start count : ℕ) → rest ≡ drop start links → suite ≡ take count rest → count ≡ suite_len (map link_of rest) → 0 < length rest
    → new ≡ old ++ first_suite folder (map link_of suite) → new ++ suites_from folder 0 (map link_of (drop (start + count) links)) ≡ old ++ suites_from folder 0 (map link_of (drop start links))
suite_put_at folder old new links rest suite start count from front is some put =
    let all = old ++ suites_from folder 0 (map link_of rest) in
    ap (λ ls. new ++ suites_from folder 0 (map link_of ls)) (sym (drop-drop count start links) ∙ ap (drop count) (sym from))
    ∙ suites_put folder old new all rest count is some refl (put ∙ ap (λ ls. old ++ first_suite folder (map link_of ls)) front)
    ∙ ap (λ ls. old ++ suites_from folder 0 (map link_of ls)) from

-- all suites were put
pub all_suites : (folder old out : List ℕ) (links : List Link) (next : ℕ) → length links ≤ next → out ++ suites_from folder 0 (map link_of (drop next links)) ≡ old ++ suites_from folder 0 (map link_of links)
    → out ≡ old ++ suites_from folder 0 (map link_of links)
all_suites folder old out links next past so_far =
    sym (append-nil out) ∙ ap (λ t. out ++ t) (sym (no_suites folder (drop next links) (omega (arith, past, length-drop next links)))) ∙ so_far
