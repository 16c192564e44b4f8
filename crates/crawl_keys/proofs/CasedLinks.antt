-- How the parser reads web URLs with letters in any case, with the scheme's default port, or with no path.
use Rattle.crawl_keys.proofs.Prelude.{common_steps, ◌≡◌, ◌⊎◌, ℕ, ◌+◌, ◌<◌, ◌==◌, Bool, true, false, not, ◌&&◌, ◌||◌, ltb, List, [], ◌∷◌, ◌++◌, length, get_or, take, drop, refl, ap, sym, subst, ◌∙◌, inl, inr, All, Some, None, Ok, arith, append_assoc, append-nil, length-append, take_at, drop_at, Option, codes, unwrap_or, is_ascii, is_ascii_alphabetic, is_ascii_alphanumeric, is_ascii_digit, to_ascii_lowercase, list_all, and_left, and_parts, cond-false, cond-true, cond_both, nat_tests, get_or_at, length-map, All-nil, All-cons, All-head, All-tail, All-append, All-map, All-weaker, bytes_eq-Decides, IsKept, percent_decode, percent_decode-nil, percent_decode_not_percent, Domain, SchemeType, NotSpecial, SpecialNotFile, FORBIDDEN_HOST, with_authority, Parts, kind_of, All-take-prefix_len, All_from_list_all, IsNot, Passes, StopsAt, is_empty_nonempty, list_all_from_All, prefix_len_at, rsplit_once_none, stops_at_path, lowercase-lowercase_all, kept_from_passes, text_of_parse, first_is_slash, host_len, is_host_byte, is_kept, is_lower, is_named, is_plain, is_plain_host, IsSpelled}
use Rattle.percent_encoding.specs.declared.ascii_set.TheConstants.{CONTROLS}
use Rattle.url.specs.declared.host.Host.{Host}
use Rattle.url.specs.Host.{ascii_domain, host_of_ascii, parse_special_host}
use Rattle.url.specs.Input.{lowercase, split_once}
use Rattle.url.specs.Parser.{Parsed, after_double_slash, and_then, base_for_scheme, before_tail, host_len as before_colon, leading_slashes, parse_authority, parse_body, parse_parts, parse_port, parse_relative, parse_url, skip_slashes, split_port, split_scheme, with_path, with_tail}
use Rattle.url.specs.Path.{parse_path_start}
use Rattle.url.specs.Scheme.{is_scheme_byte, is_slash, is_special, scheme_len, scheme_type}
use Rattle.url.proofs.HostRoundTrip.{host_len-host_text}
use Rattle.url.proofs.OnLiterals.{url_on_literals}
use Rattle.crawl_keys.specs.Cased.{IsCut, IsFront, IsFrontOf, IsLowered, IsWithPort, LeadsAnywhere}
use Rattle.crawl_keys.proofs.HostLinks.{split_after}
use Rattle.crawl_keys.proofs.PlainLemmas.{all_kept}
use Rattle.crawl_keys.proofs.PlainLinks.{uncut}
use Rattle.crawl_keys.proofs.SpelledLemmas.{IsWebScheme, canonical-spelled, http, https, named_some, parse_spelled, spelled_at, spelled_host}

-- ---- bytes

-- a letter of any case, a digit, or one of `-._`
abbrev is_name : ℕ → Bool
is_name b = is_ascii_alphanumeric b || b == 45 || b == 46 || b == 95

-- one of these, or the colon before a port
abbrev is_end : ℕ → Bool
is_end b = is_name b || b == 58

name_of : (b : ℕ) → Passes is_host_byte (to_ascii_lowercase b) → Passes is_name b
name_of b lower = grind (arith, nat_tests)

name_below : (b : ℕ) → Passes is_name b → b < 128
name_below b name = grind (arith, nat_tests)

name_ascii : (b : ℕ) → Passes is_name b → Passes is_ascii b
name_ascii b name = grind (arith, nat_tests)

name_percent : (b : ℕ) → Passes is_name b → IsNot 37 b
name_percent b name same = grind (arith, nat_tests)

name_end : (b : ℕ) → Passes is_name b → Passes is_end b
name_end b name = grind (arith, nat_tests)

digit_end : (b : ℕ) → Passes is_ascii_digit b → Passes is_end b
digit_end b digit = grind (arith, nat_tests)

end_kept : (b : ℕ) → Passes is_end b → Passes is_kept b
end_kept b end = grind (arith, nat_tests)

end_query : (b : ℕ) → Passes is_end b → IsNot 63 b
end_query b end same = grind (arith, nat_tests)

end_at : (b : ℕ) → Passes is_end b → IsNot 64 b
end_at b end same = grind (arith, nat_tests)

end_slash : (kind : SchemeType) (b : ℕ) → Passes is_end b → Passes (λ c. not (is_slash kind c)) b
end_slash kind b end = grind (arith, nat_tests)

letter_of : (b : ℕ) → Passes is_lower (to_ascii_lowercase b) → Passes is_ascii_alphabetic b
letter_of b lower = grind (arith, nat_tests)

letter_scheme : (b : ℕ) → Passes is_ascii_alphabetic b → Passes is_scheme_byte b
letter_scheme b letter = grind (arith, nat_tests)

letter_kept : (b : ℕ) → Passes is_ascii_alphabetic b → Passes is_kept b
letter_kept b letter = grind (arith, nat_tests)

letter_query : (b : ℕ) → Passes is_ascii_alphabetic b → IsNot 63 b
letter_query b letter same = grind (arith, nat_tests)

-- a property of each byte of the text in lower case
unlower : (P : ℕ → Type 0) (xs : List ℕ) → All P (lowercase xs) → All (λ b. P (to_ascii_lowercase b)) xs
unlower P [] all = All-nil (λ b. P (to_ascii_lowercase b))
unlower P (x ∷ xs) all =
    All-cons (λ b. P (to_ascii_lowercase b)) x xs (All-head P (to_ascii_lowercase x) (lowercase xs) all) (unlower P xs (All-tail P (to_ascii_lowercase x) (lowercase xs) all))

-- ---- the scheme

-- the letters are those of this scheme, in any case
record IsOwn (own scheme : List ℕ) : Type 0 where
  some : 0 < length own
  letters : All (Passes is_ascii_alphabetic) own
  lower : lowercase own ≡ scheme
  kind : scheme_type scheme ≡ SpecialNotFile

own_by : (own scheme : List ℕ) → lowercase own ≡ scheme → list_all is_lower scheme ≡ true → 0 < length scheme → scheme_type scheme ≡ SpecialNotFile → IsOwn own scheme
own_by own scheme lower all some kind = record {
  some = omega (arith, length-map own to_ascii_lowercase, ap length lower);
  letters = All-weaker (λ b. Passes is_lower (to_ascii_lowercase b)) (Passes is_ascii_alphabetic) letter_of own
      (unlower (Passes is_lower) own (subst (All (Passes is_lower)) (sym lower) (All_from_list_all is_lower scheme all)));
  lower = lower;
  kind = kind;
}

http_kind : scheme_type (codes "http") ≡ SpecialNotFile
unfolding url_on_literals
http_kind = refl

https_kind : scheme_type (codes "https") ≡ SpecialNotFile
unfolding url_on_literals
https_kind = refl

abbrev IsWeb : List ℕ → Type 0
IsWeb scheme = (scheme ≡ codes "http") ⊎ (scheme ≡ codes "https")

own_web : (own scheme : List ℕ) → lowercase own ≡ scheme → IsWeb scheme → IsOwn own scheme
own_web own scheme lower h3 = grind (arith, own_by, http, http_kind, https, https_kind)

web_scheme : (scheme : List ℕ) → IsWeb scheme → IsWebScheme scheme
web_scheme scheme h1 = grind (arith, http, https)

own_len : (own rest : List ℕ) → 0 < length own → All (Passes is_ascii_alphabetic) own → scheme_len (own ++ 58 ∷ rest) ≡ length own
unfolding scheme_len
own_len [] rest some letters = absurd (omega arith)
own_len (b ∷ own) rest some letters =
    cond-true _ _ _ (All-head (Passes is_ascii_alphabetic) b own letters)
    ∙ prefix_len_at is_scheme_byte (b ∷ own) (58 ∷ rest) (All-weaker (Passes is_ascii_alphabetic) (Passes is_scheme_byte) letter_scheme (b ∷ own) letters) refl

split_cased : (own rest : List ℕ) → 0 < length own → All (Passes is_ascii_alphabetic) own → split_scheme (own ++ 58 ∷ rest) ≡ Some (own, rest)
unfolding split_scheme
split_cased own rest some letters = grind (arith, common_steps, own_len, get_or_at, length-append)

abbrev Split : Type 0
Split = List ℕ × Option (List ℕ)

parse_url-cased : (base : Option Parts) (own scheme rest body : List ℕ) (query : Option (List ℕ)) → IsOwn own scheme → All (Passes is_kept) (own ++ 58 ∷ rest)
    → split_once 63 (own ++ 58 ∷ rest) ≡ (own ++ 58 ∷ body, query) → parse_url base (own ++ 58 ∷ rest) ≡ parse_parts scheme (base_for_scheme base scheme) body query None
unfolding parse_url
parse_url-cased base own scheme rest body query o kept split = grind (arith, uncut, split_cased)

-- ---- the host

no_bracket : (host : List ℕ) → All (Passes is_name) host → (get_or host 0 0 == 91) ≡ false
no_bracket host names = grind (arith, common_steps)

decoded : (host : List ℕ) → All (Passes is_name) host → percent_decode host ≡ host
decoded [] names = percent_decode-nil
decoded (b ∷ host) names =
    percent_decode_not_percent b host (name_percent b (All-head (Passes is_name) b host names)) ∙ ap (λ t. b ∷ t) (decoded host (All-tail (Passes is_name) b host names))

-- the parser converts the host to lower case
special_cased : (host : List ℕ) → All (Passes is_name) host → parse_special_host host ≡ host_of_ascii (Some (lowercase host))
unfolding parse_special_host ascii_domain
special_cased host names = grind (arith, cond-false, no_bracket, decoded, cond-true, list_all_from_All, name_ascii)

ends_host : (host rest : List ℕ) → All (Passes is_name) host → (rest ≡ []) ⊎ (get_or rest 0 0 ≡ 58) → before_colon false (host ++ rest) ≡ length host
ends_host host rest names end =
    let first = All-weaker (Passes is_name) (IsKept FORBIDDEN_HOST) (λ b name. kept_from_passes is_name FORBIDDEN_HOST refl b (name_below b name) name) host names in
    let second = All-weaker (Passes is_name) (IsKept CONTROLS) (λ b name. kept_from_passes is_name CONTROLS refl b (name_below b name) name) host names in
    host_len-host_text NotSpecial (Domain host) rest (first, second) end

split_bare : (host : List ℕ) → All (Passes is_name) host → split_port (host ++ []) ≡ (host, None)
split_bare host names = grind (arith, common_steps, ends_host, length-append)

split_ported : (host digits : List ℕ) → All (Passes is_name) host → split_port (host ++ 58 ∷ digits) ≡ (host, Some digits)
split_ported host digits names =
    let len = ends_host host (58 ∷ digits) names (inr refl) in
    let long : ltb (length host) (length (host ++ 58 ∷ digits)) ≡ true = simp length-append (grind (arith, nat_tests)) in
    let after = ap (drop (length host + 1)) (sym (append_assoc host (58 ∷ []) digits)) ∙ drop_at (host ++ 58 ∷ []) digits _ (length-append host (58 ∷ [])) in
    rw (len, long) (λ i. (take_at host (58 ∷ digits) _ refl i, Some (after i)))

-- ---- the authority

abbrev with_user : List ℕ → Option (List ℕ) → Host (List ℕ) → Option ℕ → Parts
with_user scheme user host port =
    with_authority scheme (split_once 58 (unwrap_or user [])).0 (unwrap_or (split_once 58 (unwrap_or user [])).1 []) host port

-- the result for a host without a path; this is its text in lower case
abbrev of_host : List ℕ → List ℕ → Parsed Parts
of_host scheme name = and_then (host_of_ascii (Some name)) (λ host. Ok (with_user scheme None host None))

authority_at : (scheme bytes host : List ℕ) (port : Option (List ℕ)) → scheme_type scheme ≡ SpecialNotFile → All (Passes is_end) bytes → split_port bytes ≡ (host, port)
    → 0 < length host → All (Passes is_name) host → parse_port scheme (unwrap_or port []) ≡ Ok None → parse_authority scheme bytes ≡ of_host scheme (lowercase host)
unfolding parse_authority
authority_at scheme bytes host port kind all split some names own = grind (arith, rsplit_once_none, end_at, special_cased, cond-false, and_left, is_empty_nonempty)

-- the authority is parsed to the host of this name
record IsAuthority (scheme authority name : List ℕ) : Type 0 where
  some : 0 < length authority
  all : All (Passes is_end) authority
  parses : parse_authority scheme authority ≡ of_host scheme name

no_port : (scheme : List ℕ) → parse_port scheme [] ≡ Ok None
unfolding parse_port
no_port scheme = refl

bare_authority : (scheme host : List ℕ) → scheme_type scheme ≡ SpecialNotFile → 0 < length host → All (Passes is_name) host → IsAuthority scheme host (lowercase host)
bare_authority scheme host kind some names =
    let all = All-weaker (Passes is_name) (Passes is_end) name_end host names in
    let split = ap split_port (sym (append-nil host)) ∙ split_bare host names in
    record {
      some = some;
      all = all;
      parses = authority_at scheme host host None kind all split some names (no_port scheme);
    }

ported_authority : (scheme host digits : List ℕ) → scheme_type scheme ≡ SpecialNotFile → 0 < length host → All (Passes is_name) host → list_all is_ascii_digit digits ≡ true → parse_port scheme digits ≡ Ok None
    → IsAuthority scheme (host ++ 58 ∷ digits) (lowercase host)
ported_authority scheme host digits kind some names whole own =
    let following = All-weaker (Passes is_ascii_digit) (Passes is_end) digit_end digits (All_from_list_all is_ascii_digit digits whole) in
    let all = All-append (Passes is_end) host (58 ∷ digits) (All-weaker (Passes is_name) (Passes is_end) name_end host names) (All-cons (Passes is_end) 58 digits refl following) in
    record {
      some = omega (arith, length-append host (58 ∷ digits));
      all = all;
      parses = authority_at scheme (host ++ 58 ∷ digits) host (Some digits) kind all (split_ported host digits names) some names own;
    }

with_port : (own front port authority host : List ℕ) → IsFrontOf own front port → scheme_type (lowercase own) ≡ SpecialNotFile → 0 < length host → All (Passes is_name) host → IsWithPort authority host port
    → IsAuthority (lowercase own) authority (lowercase host)
with_port own front port authority host f kind some names (inl is) =
    subst (λ a. IsAuthority (lowercase own) a (lowercase host)) (sym (is ∙ ap (λ p. host ++ p) f.is_port)) (ported_authority (lowercase own) host f.digits kind some names f.whole f.own)
with_port own front port authority host f kind some names (inr is) =
    subst (λ a. IsAuthority (lowercase own) a (lowercase host)) (sym is) (bare_authority (lowercase own) host kind some names)

-- ---- after the two slashes

double_at : (scheme authority path : List ℕ) → All (Passes is_end) authority → (path ≡ []) ⊎ (get_or path 0 0 ≡ 47)
    → after_double_slash scheme (authority ++ path) ≡ and_then (parse_authority scheme authority) (λ head. Ok (with_path head (parse_path_start (scheme_type scheme) [] path)))
unfolding after_double_slash
double_at scheme authority path all first = grind (arith, common_steps, end_slash, prefix_len_at, stops_at_path)

abbrev is_any_slash : ℕ → Bool
is_any_slash b = b == 47 || b == 92

stops_end : (authority rest : List ℕ) → 0 < length authority → All (Passes is_end) authority → StopsAt is_any_slash (authority ++ rest)
stops_end authority rest some all = grind (arith, common_steps)

skipped : (rest : List ℕ) → StopsAt is_any_slash rest → skip_slashes (47 ∷ 47 ∷ rest) ≡ rest
skipped rest stops = grind arith

two_slashes : (kind : SchemeType) (rest : List ℕ) → leading_slashes kind (47 ∷ 47 ∷ rest) ≡ 2
unfolding leading_slashes
two_slashes kind rest = refl

-- if there is a base, it has the scheme
abbrev Fits : List ℕ → Option Parts → Type 0
Fits scheme None = Unit {0}
Fits scheme (Some base) = (base.scheme ≡ scheme) × (is_special (kind_of base) ≡ true)

base_fits : (base : Option Parts) (scheme : List ℕ) → Fits scheme (base_for_scheme base scheme)
base_fits base scheme = grind (arith, cond_both, bytes_eq-Decides, and_parts)

body_at : (scheme : List ℕ) (base : Option Parts) (rest : List ℕ) → scheme_type scheme ≡ SpecialNotFile → Fits scheme base → StopsAt is_any_slash rest
    → parse_body scheme base (47 ∷ 47 ∷ rest) ≡ after_double_slash scheme rest
unfolding parse_body parse_relative
body_at scheme base rest kind fits stops = grind (arith, cond-false, cond-true, skipped, two_slashes)

abbrev finished : Option (List ℕ) → Parsed Parts → Parsed Parts
finished query made = and_then made (λ url. Ok (with_tail (before_tail url query None) query None))

parts_at : (scheme : List ℕ) (base : Option Parts) (body : List ℕ) (query : Option (List ℕ)) → 0 < length body → parse_parts scheme base body query None ≡ finished query (parse_body scheme base body)
unfolding parse_parts
parts_at scheme base body query some = grind arith

-- ---- the rest after the authority

-- the parser reads the rest as a slash and the path
record IsTail (tail path : List ℕ) : Type 0 where
  kept : All (Passes is_kept) tail
  first : ((split_once 63 tail).0 ≡ []) ⊎ (get_or (split_once 63 tail).0 0 0 ≡ 47)
  start : parse_path_start SpecialNotFile [] (split_once 63 tail).0 ≡ parse_path_start SpecialNotFile [] (split_once 63 (47 ∷ path)).0
  query : (split_once 63 tail).1 ≡ (split_once 63 (47 ∷ path)).1

whole_tail : (path : List ℕ) → is_plain 0 (47 ∷ path) ≡ true → IsTail (47 ∷ path) path
unfolding split_once
whole_tail path plain = record { kept = all_kept 0 (47 ∷ path) plain; first = inr refl; start = refl; query = refl }

no_tail : IsTail [] []
unfolding split_once parse_path_start
no_tail = record { kept = All-nil (Passes is_kept); first = inl refl; start = refl; query = refl }

record HasTail (rest authority path : List ℕ) : Type 0 where
  tail : List ℕ
  is : rest ≡ authority ++ tail
  reads : IsTail tail path

tail_of : (rest authority path : List ℕ) → is_plain 0 (47 ∷ path) ≡ true → IsCut rest authority path → HasTail rest authority path
tail_of rest authority path plain (inl cut) = record { tail = 47 ∷ path; is = cut; reads = whole_tail path plain }
tail_of rest authority path plain (inr cut) = record { tail = []; is = cut.0 ∙ sym (append-nil authority); reads = subst (IsTail []) (sym cut.1) no_tail }

-- ---- the whole

-- the result for this scheme, this host, and a slash and this path
abbrev made : List ℕ → List ℕ → List ℕ → Parsed Parts
made scheme name path =
    let rest = split_once 63 (47 ∷ path) in
    finished rest.1 (and_then (of_host scheme name) (λ head. Ok (with_path head (parse_path_start SpecialNotFile [] rest.0))))

parse_cased : (base : Option Parts) (own scheme authority name tail path : List ℕ) → IsOwn own scheme → IsAuthority scheme authority name → IsTail tail path
    → parse_url base (own ++ 58 ∷ 47 ∷ 47 ∷ (authority ++ tail)) ≡ made scheme name path
unfolding split_once
parse_cased base own scheme authority name tail path o a t =
    let P = Passes is_kept in
    let rest = split_once 63 tail in
    let body = 47 ∷ 47 ∷ (authority ++ rest.0) in
    let fitting = base_for_scheme base scheme in
    let ends = All-weaker (Passes is_end) P end_kept authority a.all in
    let front = All-weaker (Passes is_ascii_alphabetic) P letter_kept own o.letters in
    let kept = All-append P own (58 ∷ 47 ∷ 47 ∷ (authority ++ tail)) front
    (All-cons P 58 (47 ∷ 47 ∷ (authority ++ tail)) refl (All-cons P 47 (47 ∷ (authority ++ tail)) refl (All-cons P 47 (authority ++ tail) refl (All-append P authority tail ends t.kept)))) in
    let following = split_after authority tail (All-weaker (Passes is_end) (IsNot 63) end_query authority a.all) in
    let split = split_after own (58 ∷ 47 ∷ 47 ∷ (authority ++ tail)) (All-weaker (Passes is_ascii_alphabetic) (IsNot 63) letter_query own o.letters)
    ∙ ap (λ (r : Split). (own ++ 58 ∷ 47 ∷ 47 ∷ r.0, r.1)) following in
    let start = ap (λ k. parse_path_start k [] rest.0) o.kind ∙ t.start in
    parse_url-cased base own scheme (47 ∷ 47 ∷ (authority ++ tail)) body rest.1 o kept split
    ∙ parts_at scheme fitting (47 ∷ 47 ∷ (authority ++ rest.0)) rest.1 (omega arith)
    ∙ ap (finished rest.1) (body_at scheme fitting (authority ++ rest.0) o.kind (base_fits base scheme) (stops_end authority rest.0 a.some a.all) ∙ double_at scheme authority rest.0 a.all t.first)
    ∙ (λ i. finished (t.query i) (and_then (a.parses i) (λ head. Ok (with_path head (start i)))))

-- ---- its target

-- the bytes of the host and the path, for the text in lower case
record IsName (host path : List ℕ) : Type 0 where
  some : 0 < length host
  names : All (Passes is_name) host
  plain : is_plain 0 (47 ∷ path) ≡ true

name_at : (host path : List ℕ) → is_plain_host (lowercase host ++ 47 ∷ path) ≡ true → host_len (lowercase host ++ 47 ∷ path) ≡ length host → IsName host path
name_at host path plain len =
    let name = lowercase host in
    let text = name ++ 47 ∷ path in
    let size = length-map host to_ascii_lowercase in
    let front : take (host_len text) text ≡ name = take_at name (47 ∷ path) _ (size ∙ sym len) in
    let back : drop (host_len text) text ≡ 47 ∷ path = drop_at name (47 ∷ path) _ (size ∙ sym len) in
    let parts : ((first_is_slash (drop (host_len text) text) && is_named (take (host_len text) text)) ≡ true) × (is_plain 0 (drop (host_len text) text) ≡ true) = and_parts _ _ plain in
    let named : is_named (lowercase host) ≡ true = subst (λ h. is_named h ≡ true) front (and_parts _ _ parts.0).1 in
    let long : 0 < length (lowercase host) = named_some (lowercase host) named in
    let bytes = subst (All (Passes is_host_byte)) front (All-take-prefix_len is_host_byte text) in
    record {
      some = omega (arith, size, long);
      names = All-weaker (λ b. Passes is_host_byte (to_ascii_lowercase b)) (Passes is_name) name_of host (unlower (Passes is_host_byte) host bytes);
      plain = subst (λ t. is_plain 0 t ≡ true) back parts.1;
    }

spelled_anywhere : (text : List ℕ) (start end : ℕ) → IsSpelled text start end → LeadsAnywhere text text
spelled_anywhere text start end k base =
    ap text_of_parse (parse_spelled text start end base k ∙ sym (parse_spelled text start end None k)) ∙ canonical-spelled text start end k

-- the text leads to the URL in lower case, without its port and with its path
pub leads-cased : (text own rest front port authority path host url : List ℕ) → text ≡ own ++ 58 ∷ 47 ∷ 47 ∷ rest → IsFrontOf own front port → IsCut rest authority path
    → IsWithPort authority host port → IsLowered front host path url → LeadsAnywhere text url
leads-cased text own rest front port authority path host url is f cut ends l base =
    let scheme = lowercase own in
    let name = lowercase host in
    let back = name ++ 47 ∷ path in
    let whole = scheme ++ 58 ∷ 47 ∷ 47 ∷ back in
    let n = name_at host path l.plain l.len in
    let o = own_web own scheme refl f.web in
    let low = own_web scheme scheme (lowercase-lowercase_all own) f.web in
    let t = tail_of rest authority path n.plain cut in
    let same : lowercase name ≡ name = lowercase-lowercase_all host in
    let size = length-map host to_ascii_lowercase in
    let some : 0 < length (lowercase host) = omega (arith, size, n.some) in
    let plain = subst (IsAuthority scheme name) same (bare_authority scheme name o.kind some (name_bytes host n.names)) in
    let url_is : whole ≡ url = sym (append_assoc scheme (codes "://") back) ∙ ap (λ s. s ++ back) (sym f.is) ∙ sym l.is in
    ap (λ s. text_of_parse (parse_url base s)) (is ∙ ap (λ r. own ++ 58 ∷ 47 ∷ 47 ∷ r) t.is)
    ∙ ap text_of_parse (parse_cased base own scheme authority name t.tail path o (with_port own front port authority host f o.kind n.some n.names ends) t.reads)
    ∙ ap text_of_parse (sym (parse_cased base scheme scheme name name (47 ∷ path) path low plain (whole_tail path n.plain)))
    ∙ spelled_anywhere whole _ _ (spelled_host scheme back (web_scheme scheme f.web) l.plain) base
    ∙ ap (λ t. Ok t) url_is
  where
    lower_name : (b : ℕ) → Passes is_name b → Passes is_name (to_ascii_lowercase b)
    lower_name b name = grind (arith, nat_tests)

    name_bytes : (host : List ℕ) → All (Passes is_name) host → All (Passes is_name) (lowercase host)
    name_bytes host names = All-map (Passes is_name) to_ascii_lowercase host (All-weaker (Passes is_name) (λ b. Passes is_name (to_ascii_lowercase b)) lower_name host names)

-- ---- the text in lower case

pub spelled_front : (front rest : List ℕ) (start end : ℕ) → IsFront front → is_plain_host rest ≡ true → start ≡ length front → end ≡ length front + host_len rest → IsSpelled (front ++ rest) start end
spelled_front front rest start end (inl is) plain first last =
    spelled_at (front ++ rest) 7 (7 + host_len rest) start end (subst (λ f. IsSpelled (f ++ rest) 7 (7 + host_len rest)) (sym is) (spelled_host (codes "http") rest http plain))
    (first ∙ ap length is) (last ∙ ap (λ f. length f + host_len rest) is)
spelled_front front rest start end (inr is) plain first last =
    spelled_at (front ++ rest) 8 (8 + host_len rest) start end (subst (λ f. IsSpelled (f ++ rest) 8 (8 + host_len rest)) (sym is) (spelled_host (codes "https") rest https plain))
    (first ∙ ap length is) (last ∙ ap (λ f. length f + host_len rest) is)

http_port : parse_port (codes "http") (codes "80") ≡ Ok None
unfolding url_on_literals
http_port = refl

https_port : parse_port (codes "https") (codes "443") ≡ Ok None
unfolding url_on_literals
https_port = refl

pub http_front : (own : List ℕ) → lowercase own ≡ codes "http" → IsFrontOf own (codes "http://") (codes ":80")
http_front own lower = grind (arith, http_port)

pub https_front : (own : List ℕ) → lowercase own ≡ codes "https" → IsFrontOf own (codes "https://") (codes ":443")
https_front own lower = grind (arith, https_port)
