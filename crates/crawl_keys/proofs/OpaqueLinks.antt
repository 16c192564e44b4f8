-- URLs whose path is opaque have no canonical text.
use Rattle.crawl_keys.proofs.Prelude.{common_steps, ◌≡◌, ℕ, true, false, List, [], ◌∷◌, get_or, refl, ap, sym, subst, ◌∙◌, All, Some, None, Ok, Err, arith, append-nil, take_all, Option, bytes_eq, codes, is_some, is_ascii_alphabetic, is_ascii_lowercase, to_ascii_lowercase, prefix_len, and_parts, and_right, cases_Bool, cond-true, cond_both, or_from, nat_tests, All-weaker, bytes_eq-Decides, percent_encode, NotSpecial, OPAQUE_PATH, scheme_only, Parts, kind_of, All-take-prefix_len, IsNot, Passes, StopsAt, lowercase_other, map_fixed, prefix_len_at, not_special_from, IsCanonical, is_web, resolve, resolve_from, text_of_parse, NotHttp, first_is_slash, is_kept, is_lower}
use Rattle.url.specs.Input.{split_once}
use Rattle.url.specs.Parser.{base_for_scheme, before_tail, parse_body, parse_non_special, parse_parts, parse_url, with_path}
use Rattle.url.specs.Scheme.{IsScheme, default_port, is_scheme_byte, is_slash, is_special, scheme_len, scheme_type}
use Rattle.crawl_keys.specs.Opaque.{IsOpaque, IsWord}
use Rattle.crawl_keys.proofs.CanonicalLemmas.{text_of-other, web_kind}
use Rattle.crawl_keys.proofs.HostLinks.{parse_url-scheme, split_after}
use Rattle.crawl_keys.proofs.PlainLemmas.{all_kept}
use Rattle.crawl_keys.proofs.PlainLinks.{no_slashes}

-- ---- the scheme

letters : (scheme : List ℕ) → IsWord scheme → All (Passes is_lower) scheme
letters scheme word =
    subst (All (Passes is_lower)) (take_all (prefix_len is_lower scheme) scheme (omega (arith, word.1))) (All-take-prefix_len is_lower scheme)

letter_byte : (b : ℕ) → Passes is_lower b → Passes is_scheme_byte b
letter_byte b lower = grind (arith, nat_tests)

letter_first : (b : ℕ) → Passes is_lower b → is_ascii_alphabetic b ≡ true
letter_first b lower = grind (arith, nat_tests)

letter_lower : (b : ℕ) → Passes is_lower b → to_ascii_lowercase b ≡ b
letter_lower b lower = lowercase_other b (grind (arith, nat_tests))

letter_other : (b : ℕ) → Passes is_lower b → IsNot 63 b
letter_other b lower same = grind (arith, nat_tests)

word_scheme : (scheme : List ℕ) → IsWord scheme → IsScheme scheme
unfolding scheme_len
word_scheme scheme word =
    let all = letters scheme word in
    let first = letter_first (get_or scheme 0 0) (all 0 0 word.0) in
    let bytes = All-weaker (Passes is_lower) (Passes is_scheme_byte) letter_byte scheme all in
    record {
      nonempty = word.0;
      whole = cond-true _ _ _ first ∙ ap (prefix_len is_scheme_byte) (sym (append-nil scheme)) ∙ prefix_len_at is_scheme_byte scheme [] bytes tt;
      lower = map_fixed to_ascii_lowercase scheme (All-weaker (Passes is_lower) (λ b. to_ascii_lowercase b ≡ b) letter_lower scheme all);
    }

not_web : (url : Parts) → is_special (kind_of url) ≡ false → is_web url ≡ false
not_web url other = grind (arith, web_kind, cases_Bool)

-- the URL of a web page is not a base for it
other_base : (base : Parts) (scheme : List ℕ) → is_special (scheme_type scheme) ≡ false → base_for_scheme (Some base) scheme ≡ None
other_base base scheme other = grind (arith, cond_both, and_parts, bytes_eq-Decides)

-- ---- the path

abbrev opaque : List ℕ → List ℕ → Parts
opaque scheme body = with_path (scheme_only scheme) (percent_encode OPAQUE_PATH body)

opaque_body : (scheme body : List ℕ) → is_special (scheme_type scheme) ≡ false → StopsAt (is_slash NotSpecial) body → parse_body scheme None body ≡ Ok (opaque scheme body)
unfolding parse_body parse_non_special
opaque_body scheme body other stops = grind (arith, not_special_from, no_slashes)

tail_scheme : (url : Parts) (query : Option (List ℕ)) → (before_tail url query None).scheme ≡ url.scheme
tail_scheme url query = grind arith

opaque_refused : (scheme body : List ℕ) (query : Option (List ℕ)) → is_special (scheme_type scheme) ≡ false → StopsAt (is_slash NotSpecial) body
    → text_of_parse (parse_parts scheme None body query None) ≡ Err NotHttp
unfolding parse_parts
opaque_refused scheme body query other stops = grind (arith, opaque_body, text_of-other, not_web, tail_scheme)

before_query : (path : List ℕ) → first_is_slash path ≡ false → StopsAt (is_slash NotSpecial) (split_once 63 path).0
unfolding split_once
before_query path rootless = grind (arith, common_steps, cond_both, or_from, and_right)

-- resolving such a link fails on every page
pub refuses-opaque : (page text : List ℕ) → IsCanonical page → IsOpaque text → resolve page text ≡ Err NotHttp
unfolding split_once
refuses-opaque page text k o =
    let base = k.url in
    let body = (split_once 63 o.path).0 in
    let query = (split_once 63 o.path).1 in
    let none = All-weaker (Passes is_lower) (IsNot 63) letter_other o.scheme (letters o.scheme o.word) in
    let kept = subst (All (Passes is_kept)) o.is (all_kept 0 text o.plain) in
    ap (λ p. resolve_from p text) k.parses
    ∙ ap (λ t. text_of_parse (parse_url (Some base) t)) o.is
    ∙ ap text_of_parse (parse_url-scheme (Some base) o.scheme o.path body query (word_scheme o.scheme o.word) kept (split_after o.scheme (58 ∷ o.path) none))
    ∙ ap (λ b. text_of_parse (parse_parts o.scheme b body query None)) (other_base base o.scheme o.other)
    ∙ opaque_refused o.scheme body query o.other (before_query o.path o.rootless)

-- ---- special schemes

pub file_special : (scheme : List ℕ) → bytes_eq scheme (codes "file") ≡ true → is_special (scheme_type scheme) ≡ true
unfolding scheme_type
file_special scheme file = rw file refl

pub other_special : (scheme : List ℕ) → bytes_eq scheme (codes "file") ≡ false → is_special (scheme_type scheme) ≡ is_some (default_port scheme)
unfolding scheme_type
other_special scheme other = grind arith

pub letter_test : (b : ℕ) → is_ascii_lowercase b ≡ is_lower b
letter_test b = grind (arith, nat_tests)
