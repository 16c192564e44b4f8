-- The targets of links that begin with a slash and have dot segments: there is no folder above the root.
use Rattle.crawl_keys.proofs.Prelude.{◌≡◌, ◌⊎◌, ℕ, zero, suc, ◌+◌, ◌<◌, true, List, [], ◌∷◌, ◌++◌, length, get_or, take, drop, refl, ap, sym, subst, ◌∙◌, All, Some, Ok, IfSome, arith, append_assoc, length-append, take_at, and_from, All-cons, IsKept, SpecialNotFile, SPECIAL_QUERY, BeforeHost, AfterHost, head_only, Parts, IsValid, kind_of, offset, serialize, parse_path, without_last_segment, is_slash, All_from_list_all, IsNot, Passes, StopsAt, list_all_from_All, rooted, IsBase, IsCanonical, IsPage, resolve, root_text, IsAtRoot, IsAfterDots, above, is_kept, is_plain, may_follow, IsSpelled}
use Rattle.url.specs.Input.{rsplit_once, split_once}
use Rattle.url.specs.Parser.{parse_relative, parse_url, with_path}
use Rattle.crawl_keys.proofs.BaseLemmas.{own_end, own_start, page_of, page_text}
use Rattle.crawl_keys.proofs.FolderLemmas.{IsWeb, web_url}
use Rattle.crawl_keys.proofs.PlainLemmas.{all_kept, query_text, splits}
use Rattle.crawl_keys.proofs.PlainLinks.{one_slash, parse_run, parse_url-path, relative_by, resolve-rest, rooted_scheme, rootless_plain, stops_kept}
use Rattle.crawl_keys.proofs.SpelledLemmas.{IsRest, plain_rest, spelled_at, spelled_rest, with_rest}

nothing_above : without_last_segment [] ≡ []
unfolding rsplit_once
nothing_above = refl

none_above : (n : ℕ) → above n [] ≡ []
none_above zero = refl
none_above (suc n) = ap without_last_segment (none_above n) ∙ nothing_above

-- the parser's relative state, on a text whose path it reads as this one
root_relative : (base : Parts) (n : ℕ) (text body : List ℕ) → kind_of base ≡ SpecialNotFile → StopsAt (is_slash SpecialNotFile) text
    → ((front : List ℕ) → parse_path SpecialNotFile front text ≡ parse_path SpecialNotFile (above n front) body) → is_plain 47 body ≡ true → All (IsNot 63) body
    → parse_relative base (47 ∷ text) ≡ Ok (with_path (head_only base) (47 ∷ body))
unfolding parse_relative
root_relative base n text body kind stops reads plain none = grind (arith, none_above, parse_run, relative_by, one_slash)

parse_url-root : (base : Parts) (text : List ℕ) (n : ℕ) (rest : List ℕ) → IsWeb base → IsAfterDots text n rest → is_plain 47 rest ≡ true
    → parse_url (Some base) (47 ∷ text) ≡ Ok (with_rest base (47 ∷ (split_once 63 rest).0) (split_once 63 rest).1)
unfolding split_once
parse_url-root base text n rest web following plain =
    let body = (split_once 63 text).0 in
    let query = (split_once 63 text).1 in
    let own = (split_once 63 rest).0 in
    let split = splits 47 rest plain in
    let reads = following.reads in
    let kept = All_from_list_all is_kept text (following.kept (list_all_from_All is_kept rest (all_kept 47 rest plain))) in
    let stops = stops_kept text kept (following.rootless (rootless_plain rest plain)) in
    parse_url-path base (47 ∷ text) (47 ∷ body) (47 ∷ own) query web (All-cons (Passes is_kept) 47 text refl kept) refl (rooted_scheme body) (omega arith)
    (subst (λ q. IfSome q (All (IsKept SPECIAL_QUERY))) (sym reads.query) split.kept)
    (root_relative base n body own web.kind stops reads.path split.plain split.none)
    ∙ ap (λ q. Ok (with_rest base (47 ∷ own) q)) reads.query

root_rest : (rest : List ℕ) → is_plain 47 rest ≡ true → IsRest (47 ∷ rest) (47 ∷ (split_once 63 rest).0) (split_once 63 rest).1
unfolding split_once
root_rest rest plain = plain_rest 0 (47 ∷ rest) refl (and_from (may_follow 0 47) (is_plain 47 rest) refl plain)

resolve-root : (base : Parts) (text rest : List ℕ) → IsValid base → IsPage base → IsAtRoot text rest → resolve (serialize base) text ≡ Ok (root_text base ++ 47 ∷ rest)
resolve-root base text rest valid page link =
    ap (λ t. resolve (serialize base) t) link.is
    ∙ resolve-rest base (47 ∷ link.path) (47 ∷ rest) _ _ valid page (root_rest rest link.plain)
    (parse_url-root base link.path link.ups rest (web_url base valid page.web) link.following link.plain)

-- ---- the page's text up to the slash of its root

path_slash : (path : List ℕ) → 0 < length path → (path ≡ []) ⊎ (get_or path 0 0 ≡ 47) → path ≡ 47 ∷ drop 1 path
path_slash path some first = grind arith

front_slash : (text : List ℕ) (root folder : ℕ) (k : IsCanonical text) → IsBase text root folder → take (root + 1) text ≡ root_text k.url ++ 47 ∷ []
front_slash text root folder k b =
    let url = k.url in
    let web = web_url url k.valid k.web in
    let own = root_text url in
    let rest = drop 1 url.path ++ query_text url.query in
    let path = path_slash url.path web.some (rooted (kind_of url) url.path web.list) in
    let all : text ≡ (own ++ 47 ∷ []) ++ rest =
    sym k.spelled ∙ page_text url web.authority k.bare ∙ ap (λ p. own ++ (p ++ query_text url.query)) path ∙ sym (append_assoc own (47 ∷ []) rest) in
    let len : length (own ++ 47 ∷ []) ≡ root + 1 = omega (arith, b.before_path url k.parses, length-append own (47 ∷ [])) in
    ap (take (root + 1)) all ∙ take_at (own ++ 47 ∷ []) rest (root + 1) len

own_root : (text : List ℕ) (root folder : ℕ) (rest : List ℕ) (k : IsCanonical text) → IsBase text root folder → take (root + 1) text ++ rest ≡ root_text k.url ++ 47 ∷ rest
own_root text root folder rest k b = ap (λ f. f ++ rest) (front_slash text root folder k b) ∙ append_assoc (root_text k.url) (47 ∷ []) rest

pub leads_at_root : (text link : List ℕ) (root folder : ℕ) (rest : List ℕ) (k : IsCanonical text) → IsBase text root folder → IsAtRoot link rest → resolve text link ≡ Ok (take (root + 1) text ++ rest)
leads_at_root text link root folder rest k b at =
    ap (λ t. resolve t link) (sym k.spelled) ∙ resolve-root k.url link rest k.valid (page_of text k) at ∙ ap (λ t. Ok t) (sym (own_root text root folder rest k b))

pub spelled_at_root : (text link : List ℕ) (root folder : ℕ) (rest : List ℕ) (start end : ℕ) (k : IsCanonical text) → IsBase text root folder → IsSpelled text start end → IsAtRoot link rest → IsSpelled (take (root + 1) text ++ rest) start end
spelled_at_root text link root folder rest start end k b s at =
    let url = k.url in
    let own = spelled_rest url (47 ∷ rest) _ _ k.valid.head k.web (root_rest rest at.plain) in
    spelled_at (take (root + 1) text ++ rest) (offset url BeforeHost) (offset url AfterHost) start end
    (subst (λ t. IsSpelled t (offset url BeforeHost) (offset url AfterHost)) (sym (own_root text root folder rest k b)) own)
    (own_start text start end k s) (own_end text start end k s)
