-- The targets of links that begin with two slashes: the page's scheme comes before them.
use Rattle.crawl_keys.proofs.Prelude.{◌≡◌, ℕ, ◌+◌, ◌==◌, Bool, true, not, ◌&&◌, List, [], ◌∷◌, ◌++◌, length, take, drop, refl, ap, sym, subst, ◌∙◌, All, Some, None, Ok, arith, append_assoc, length-append, take-append-drop, Option, and_from, and_left, and_parts, cond-false, cond-true, ne_eqb, or_cases, nat_tests, All-append, All-cons, All-head, All-tail, All-weaker, bytes_eq-Decides, Parts, IsValid, serialize, IsScheme, is_special, All-take-prefix_len, IsNot, Passes, split_own_scheme, base_from_authority, IsSchemeOf, IsCanonical, IsPage, is_web, resolve, resolve_from, text_of_parse, IsByHost, host_len, is_host_byte, is_kept, is_plain_host, IsSpelled}
use Rattle.url.specs.Input.{split_once}
use Rattle.url.specs.Parser.{base_for_scheme, parse_parts, parse_url}
use Rattle.crawl_keys.proofs.BaseLemmas.{page_of}
use Rattle.crawl_keys.proofs.FolderLemmas.{IsWeb, web_url}
use Rattle.crawl_keys.proofs.PlainLemmas.{all_kept}
use Rattle.crawl_keys.proofs.PlainLinks.{parse_url-kept, rooted_scheme, uncut}
use Rattle.crawl_keys.proofs.SpelledLemmas.{resolve-spelled, spelled_at, spelled_host}

-- ---- the scheme of a page

-- a text before its query keeps the byte unchanged
abbrev holds : ℕ → Bool
holds b = is_kept b && not (b == 63)

scheme_bytes : (base : Parts) → is_web base ≡ true → All (Passes holds) base.scheme
scheme_bytes base web = grind (arith, bytes_eq-Decides, or_cases)

-- ---- the parser reads the link after the page's scheme as it reads the link itself

abbrev Split : Type 0
Split = List ℕ × Option (List ℕ)

pub split_after : (front rest : List ℕ) → All (IsNot 63) front → split_once 63 (front ++ rest) ≡ (front ++ (split_once 63 rest).0, (split_once 63 rest).1)
unfolding split_once
split_after [] rest none = refl
split_after (b ∷ front) rest none =
    cond-false _ _ _ (ne_eqb b 63 (All-head (IsNot 63) b front none)) ∙ ap (λ (r : Split). (b ∷ r.0, r.1)) (split_after front rest (All-tail (IsNot 63) b front none))

-- how the parser reads a kept text with a scheme
pub parse_url-scheme : (base : Option Parts) (scheme rest body : List ℕ) (query : Option (List ℕ)) → IsScheme scheme → All (Passes is_kept) (scheme ++ 58 ∷ rest)
    → split_once 63 (scheme ++ 58 ∷ rest) ≡ (scheme ++ 58 ∷ body, query) → parse_url base (scheme ++ 58 ∷ rest) ≡ parse_parts scheme (base_for_scheme base scheme) body query None
unfolding parse_url
parse_url-scheme base scheme rest body query valid kept split = grind (arith, uncut, split_own_scheme)

own_base : (base : Parts) → IsWeb base → base_for_scheme (Some base) base.scheme ≡ Some base
own_base base web = cond-true _ _ _ (and_from _ _ (ap is_special web.kind) ((bytes_eq-Decides base.scheme base.scheme).1 refl))

parse_url-by_scheme : (base : Parts) (more : List ℕ) → IsWeb base → is_web base ≡ true → All (Passes is_kept) (47 ∷ more) → parse_url (Some base) (47 ∷ more) ≡ parse_url (Some base) (base.scheme ++ 58 ∷ 47 ∷ more)
unfolding split_once
parse_url-by_scheme base more page web kept =
    let body = 47 ∷ (split_once 63 more).0 in
    let query = (split_once 63 more).1 in
    let bytes = scheme_bytes base web in
    let front = All-weaker (Passes holds) (Passes is_kept) (λ b test. (and_parts _ _ test).0) base.scheme bytes in
    let none = All-weaker (Passes holds) (IsNot 63) (λ b test same. grind (arith, nat_tests)) base.scheme bytes in
    let all = All-append (Passes is_kept) base.scheme (58 ∷ 47 ∷ more) front (All-cons (Passes is_kept) 58 (47 ∷ more) refl kept) in
    parse_url-kept base (47 ∷ more) body query kept refl (rooted_scheme (split_once 63 more).0)
    ∙ cond-false _ _ _ (and_left _ _ (base_from_authority base page.authority))
    ∙ ap (λ b. parse_parts base.scheme b body query None) (sym (own_base base page))
    ∙ sym (parse_url-scheme (Some base) base.scheme (47 ∷ more) body query page.valid.head.scheme all (split_after base.scheme (58 ∷ 47 ∷ more) none))

-- ---- its target

spelled_after : (base : Parts) (rest : List ℕ) → IsValid base → is_web base ≡ true → is_plain_host rest ≡ true → IsSpelled (base.scheme ++ 58 ∷ 47 ∷ 47 ∷ rest) (length base.scheme + 3) (length base.scheme + 3 + host_len rest)
spelled_after base rest valid web plain = grind (arith, spelled_host)

host_byte_kept : (b : ℕ) → Passes is_host_byte b → Passes is_kept b
host_byte_kept b host = grind (arith, nat_tests)

kept_after : (rest : List ℕ) → is_plain_host rest ≡ true → All (Passes is_kept) rest
kept_after rest plain =
    let n = host_len rest in
    let host = All-weaker (Passes is_host_byte) (Passes is_kept) host_byte_kept (take n rest) (All-take-prefix_len is_host_byte rest) in
    let tail = all_kept 0 (drop n rest) (and_parts _ _ plain).1 in
    subst (All (Passes is_kept)) (take-append-drop n rest) (All-append (Passes is_kept) (take n rest) (drop n rest) host tail)

resolve-following : (base : Parts) (rest : List ℕ) → IsValid base → IsPage base → is_plain_host rest ≡ true → resolve (serialize base) (47 ∷ 47 ∷ rest) ≡ Ok (base.scheme ++ 58 ∷ 47 ∷ 47 ∷ rest)
resolve-following base rest valid page plain =
    let P = Passes is_kept in
    let k = spelled_after base rest valid page.web plain in
    let text = base.scheme ++ 58 ∷ 47 ∷ 47 ∷ rest in
    let kept = All-cons P 47 (47 ∷ rest) refl (All-cons P 47 rest refl (kept_after rest plain)) in
    ap (λ p. resolve_from p (47 ∷ 47 ∷ rest)) page.parses
    ∙ ap text_of_parse (parse_url-by_scheme base (47 ∷ rest) (web_url base valid page.web) page.web kept)
    ∙ ap (λ p. resolve_from p text) (sym page.parses)
    ∙ resolve-spelled base (serialize base) text _ _ page.parses k

-- the two texts together are that of the URL to which the link leads
front_scheme : (text scheme : List ℕ) (k : IsCanonical text) → IsSchemeOf text scheme → (rest : List ℕ) → scheme ++ rest ≡ k.url.scheme ++ 58 ∷ rest
front_scheme text scheme k own rest = ap (λ s. s ++ rest) (own k.url k.parses) ∙ append_assoc k.url.scheme (58 ∷ []) rest

pub leads_by_host : (text link scheme : List ℕ) (len : ℕ) (k : IsCanonical text) → IsSchemeOf text scheme → IsByHost link len → resolve text link ≡ Ok (scheme ++ link)
leads_by_host text link scheme len k own by =
    (λ i. resolve (sym k.spelled i) (by.is i)) ∙ resolve-following k.url by.rest k.valid (page_of text k) by.plain
    ∙ ap (λ t. Ok t) (sym (front_scheme text scheme k own (47 ∷ 47 ∷ by.rest)) ∙ ap (λ l. scheme ++ l) (sym by.is))

pub spelled_by_host : (text link scheme : List ℕ) (len : ℕ) (k : IsCanonical text) → IsSchemeOf text scheme → IsByHost link len → IsSpelled (scheme ++ link) (length scheme + 2) (length scheme + 2 + len)
spelled_by_host text link scheme len k own by =
    let s = spelled_after k.url by.rest k.valid k.web by.plain in
    let size : length scheme ≡ length k.url.scheme + 1 = ap length (own k.url k.parses) ∙ length-append k.url.scheme (58 ∷ []) in
    let whole = sym (front_scheme text scheme k own (47 ∷ 47 ∷ by.rest)) ∙ ap (λ l. scheme ++ l) (sym by.is) in
    spelled_at (scheme ++ link) _ _ _ _ (subst (λ t. IsSpelled t (length k.url.scheme + 3) (length k.url.scheme + 3 + host_len by.rest)) whole s) (omega (arith, size)) (omega (arith, size, by.host))
