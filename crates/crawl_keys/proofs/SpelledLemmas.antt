-- Texts of web URLs that consist of a beginning, a path and a query.
use Rattle.crawl_keys.proofs.Prelude.{common_steps, ◌≡◌, ℕ, ◌+◌, ◌<◌, true, false, not, ◌&&◌, ◌||◌, List, [], ◌∷◌, ◌++◌, length, get_or, take, drop, refl, ap, sym, subst, ◌∙◌, All, Some, None, Ok, IfSome, arith, append_assoc, append-nil, length-append, length-take-le, take-append-drop, lit<, Option, IsAscii, bytes_eq, codes, slice_range, is_ascii_digit, to_ascii_lowercase, list_all, and_left, and_right, or_from, true≢false, nat_tests, All-nil, prefix_len-le-length, IsKept, hash_of, Domain, SpecialNotFile, FORBIDDEN_DOMAIN, SPECIAL_QUERY, USERINFO, BeforeHost, AfterHost, Parts, IsValid, IsValidHead, has_authority, offset, serialize, pieces, IsSegmentList, Passes, All-take-prefix_len, is_empty_nonempty, lowercase_other, map_fixed, kept_from_passes, parse_url-serialize_special, IsAscii-serialize, special_has_authority, Laid, IsCanonical, canonical, is_web, resolve, resolve_from, text_of_parse, without_fragment, root_text, IsLaidOut, host_len, is_host_byte, is_lower, is_named, is_plain, is_plain_host, IsSpelled, host_key, host_of_parse}
use Rattle.url.specs.Host.{IsDomain, IsHostOf}
use Rattle.url.specs.Input.{is_empty, rsplit_once, split_once}
use Rattle.url.specs.Ipv4.{ends_in_a_number, is_number, last_label_of, parse_number}
use Rattle.url.specs.Parser.{parse_url}
use Rattle.url.specs.Scheme.{IsScheme, is_special, scheme_len}
use Rattle.crawl_keys.proofs.CanonicalLemmas.{canonical-canonical, web_kind, canonical_text, parse_url-without_fragment}
use Rattle.crawl_keys.proofs.PlainLemmas.{query_text, rooted_path, splits}
use Rattle.url.proofs.PiecesLemmas.{slice_at, upto-le, upto_ordered}

-- the host key is between the start and the end of the host
slice_range-host : (url : Parts) → IsValid url → is_web url ≡ true → slice_range (serialize (without_fragment url)) (offset url BeforeHost) (offset url AfterHost) ≡ host_key (serialize (without_fragment url))
slice_range-host url valid web =
    slice_at _ (pieces (without_fragment url)) 6 7 _ _ refl (omega arith) refl refl ∙ append-nil _
    ∙ sym (ap host_of_parse (parse_url-without_fragment url valid web))

-- what is read from a web URL is laid out
laid_out : (u : Laid) (url : Parts) → IsValid url → is_web url ≡ true → u.text ≡ serialize (without_fragment url) → IsAscii u.text → u.host_start ≡ offset url BeforeHost → u.host_end ≡ offset url AfterHost → u.hash ≡ hash_of u.text → IsSpelled u.text u.host_start u.host_end → IsLaidOut u
laid_out u url valid web spelled ascii start end hashed own = record {
  canonical = rw spelled (canonical_text url valid web);
  ascii = ascii;
  ordered = rw (start, end) (upto_ordered (pieces url) 6 7 (omega arith));
  inside = rw (end, spelled) (upto-le (pieces (without_fragment url)) 7);
  host = rw (start, end, spelled) (slice_range-host url valid web);
  spelled = own;
  hashed = hashed;
}

-- ---- the parsed form of such a text

pub parse_spelled : (text : List ℕ) (start end : ℕ) (base : Option Parts) (k : IsSpelled text start end) → parse_url base text ≡ Ok k.url
parse_spelled text start end base k = grind (arith, parse_url-serialize_special, web_kind)

pub canonical_spelled : (text : List ℕ) (start end : ℕ) → IsSpelled text start end → IsCanonical text
canonical_spelled text start end k = record {
  url = k.url;
  valid = k.valid;
  web = k.web;
  bare = k.bare;
  spelled = k.spelled;
  parses = parse_spelled text start end None k;
}

-- the canonical text of such a text is the text itself
pub canonical-spelled : (text : List ℕ) (start end : ℕ) → IsSpelled text start end → canonical text ≡ Ok text
canonical-spelled text start end k = canonical-canonical text (canonical_spelled text start end k)

-- on any page such a text resolves to itself
pub resolve-spelled : (base : Parts) (page text : List ℕ) (start end : ℕ) → parse_url None page ≡ Ok base → IsSpelled text start end → resolve page text ≡ Ok text
resolve-spelled base page text start end parses k =
    ap (λ p. resolve_from p text) parses
    ∙ ap text_of_parse (parse_spelled text start end (Some base) k ∙ sym (parse_spelled text start end None k))
    ∙ canonical-spelled text start end k

-- such a text is laid out by the offsets of its host
pub laid_spelled : (u : Laid) → IsSpelled u.text u.host_start u.host_end → u.hash ≡ hash_of u.text → IsLaidOut u
laid_spelled u k hashed =
    laid_out u k.url k.valid k.web (sym k.spelled ∙ (λ i. serialize (record k.url { fragment = k.bare i })))
    (subst IsAscii k.spelled (IsAscii-serialize k.url k.valid)) (sym k.start) (sym k.end) hashed k

-- likewise for positions that are equal to these
pub spelled_at : (text : List ℕ) (start end own its : ℕ) → IsSpelled text start end → own ≡ start → its ≡ end → IsSpelled text own its
spelled_at text start end own its k first last = grind arith

-- ---- a head with a path and a query

-- the URL with this path and this query
abbrev pub with_rest : Parts → List ℕ → Option (List ℕ) → Parts
with_rest head path query = record head { path = path; query = query; fragment = None }

-- the path of a text, and its query if it has one
pub record IsRest (text path : List ℕ) (query : Option (List ℕ)) : Type 0 where
  pub list : IsSegmentList SpecialNotFile path
  pub some : 0 < length path
  pub kept : IfSome query (All (IsKept SPECIAL_QUERY))
  pub whole : text ≡ path ++ query_text query

pub rest_valid : (head : Parts) (text path : List ℕ) (query : Option (List ℕ)) → IsValidHead head → is_web head ≡ true → IsRest text path query → IsValid (with_rest head path query)
rest_valid head text path query valid web rest = grind (arith, web_kind)

pub rest_text : (head : Parts) (path : List ℕ) (query : Option (List ℕ)) → has_authority head ≡ true → serialize (with_rest head path query) ≡ root_text head ++ (path ++ query_text query)
rest_text head path query authority = rw authority (simp (append_assoc, append-nil))

pub spelled_rest : (head : Parts) (text path : List ℕ) (query : Option (List ℕ)) → IsValidHead head → is_web head ≡ true → IsRest text path query → IsSpelled (root_text head ++ text) (offset head BeforeHost) (offset head AfterHost)
spelled_rest head text path query valid web rest =
    let authority = special_has_authority head valid (ap is_special (web_kind head web)) in
    record {
      url = with_rest head path query;
      valid = rest_valid head text path query valid web rest;
      web = web;
      bare = refl;
      spelled = rest_text head path query authority ∙ ap (λ t. root_text head ++ t) (sym rest.whole);
      start = refl;
      end = refl;
    }

-- a text that is plain and begins with a slash is a path and a query
rooted_rest : (last : ℕ) (more : List ℕ) → is_plain last (47 ∷ more) ≡ true → IsRest (47 ∷ more) (split_once 63 (47 ∷ more)).0 (split_once 63 (47 ∷ more)).1
unfolding split_once
rooted_rest last more plain =
    let s = splits last (47 ∷ more) plain in
    record {
      list = rooted_path last 47 (split_once 63 more).0 refl s.plain s.none;
      some = omega arith;
      kept = s.kept;
      whole = s.whole;
    }

pub plain_rest : (last : ℕ) (text : List ℕ) → get_or text 0 0 ≡ 47 → is_plain last text ≡ true → IsRest text (split_once 63 text).0 (split_once 63 text).1
plain_rest last [] slash plain = absurd (omega arith)
plain_rest last (b ∷ more) slash plain =
    subst (λ x. is_plain last (x ∷ more) ≡ true → IsRest (x ∷ more) (split_once 63 (x ∷ more)).0 (split_once 63 (x ∷ more)).1) (sym slash) (rooted_rest last more) plain

-- ---- a plain host

last_of : (front : Option (List ℕ)) (last : List ℕ) → 0 < length last → last_label_of front last ≡ last
last_of front last some = grind arith

-- a text that begins with a letter is not a number
no_number : (b : ℕ) (last : List ℕ) → is_lower b ≡ true → ((not (is_empty (b ∷ last)) && list_all is_ascii_digit (b ∷ last)) || is_number (parse_number (b ∷ last))) ≡ false
unfolding parse_number
no_number b last letter = grind (arith, common_steps, is_empty_nonempty, or_from, and_right, and_left)

named_last : (front : Option (List ℕ)) (last : List ℕ) → is_lower (get_or last 0 0) ≡ true → ((not (is_empty (last_label_of front last)) && list_all is_ascii_digit (last_label_of front last)) || is_number (parse_number (last_label_of front last))) ≡ false
named_last front last letter = grind (arith, common_steps, true≢false, last_of, no_number)

pub named : (host : List ℕ) → is_named host ≡ true → ends_in_a_number host ≡ false
unfolding ends_in_a_number
named host letter = named_last (rsplit_once 46 host).0 (rsplit_once 46 host).1 letter

pub named_some : (host : List ℕ) → is_named host ≡ true → 0 < length host
unfolding rsplit_once
named_some host letter = grind (arith, common_steps, true≢false)

host_below : (b : ℕ) → is_host_byte b ≡ true → b < 128
host_below b host = grind (arith, nat_tests)

host_kept : (b : ℕ) → Passes is_host_byte b → IsKept FORBIDDEN_DOMAIN b
host_kept b host = kept_from_passes is_host_byte FORBIDDEN_DOMAIN refl b (host_below b host) host

host_lower : (b : ℕ) → Passes is_host_byte b → to_ascii_lowercase b ≡ b
host_lower b host = lowercase_other b (grind (arith, nat_tests))

host_domain : (host : List ℕ) → All (Passes is_host_byte) host → is_named host ≡ true → IsDomain host
host_domain host all letter = grind (arith, host_kept, map_fixed, host_lower, named)

-- a web scheme
pub record IsWebScheme (scheme : List ℕ) : Type 0 where
  pub is : IsScheme scheme
  pub web : (bytes_eq scheme (codes "http") || bytes_eq scheme (codes "https")) ≡ true

pub http : IsWebScheme (codes "http")
unfolding scheme_len
http = record { is = record { nonempty = lit< tt; whole = refl; lower = refl }; web = refl }

pub https : IsWebScheme (codes "https")
unfolding scheme_len
https = record { is = record { nonempty = lit< tt; whole = refl; lower = refl }; web = refl }

-- a scheme and a domain
abbrev host_only : List ℕ → List ℕ → Parts
host_only scheme host = record {
  scheme = scheme;
  username = [];
  password = [];
  host = Some (Domain host);
  port = None;
  path = [];
  query = None;
  fragment = None;
}

host_head : (scheme host : List ℕ) → IsWebScheme scheme → IsDomain host → 0 < length host → IsValidHead (host_only scheme host)
host_head scheme host k domain some = record {
  scheme = k.is;
  username = All-nil (IsKept USERINFO);
  password = All-nil (IsKept USERINFO);
  host = subst (λ kind. IsHostOf kind (Domain host)) (sym (web_kind (host_only scheme host) k.web)) (domain, some);
  port = tt;
  bare = λ _. (refl, refl, refl);
}

-- the text after the host
record After (rest : List ℕ) : Type 0 where
  slash : get_or (drop (host_len rest) rest) 0 0 ≡ 47
  plain : is_plain 0 (drop (host_len rest) rest) ≡ true
  named : is_named (take (host_len rest) rest) ≡ true

following : (rest : List ℕ) → is_plain_host rest ≡ true → After rest
following rest plain = grind arith

-- a scheme, a plain host and the text after it are the text of a URL
pub spelled_host : (scheme rest : List ℕ) → IsWebScheme scheme → is_plain_host rest ≡ true → IsSpelled (scheme ++ 58 ∷ 47 ∷ 47 ∷ rest) (length scheme + 3) (length scheme + 3 + host_len rest)
spelled_host scheme rest k plain =
    let b = following rest plain in
    let n = host_len rest in
    let host = take n rest in
    let tail = drop n rest in
    let domain = host_domain host (All-take-prefix_len is_host_byte rest) b.named in
    let head = host_only scheme host in
    let made = spelled_rest head tail (split_once 63 tail).0 (split_once 63 tail).1 (host_head scheme host k domain (named_some host b.named)) k.web (plain_rest 0 tail b.slash b.plain) in
    let text : root_text head ++ tail ≡ scheme ++ 58 ∷ 47 ∷ 47 ∷ (host ++ tail) = simp (append_assoc, append-nil) in
    let all : length host ≡ n = length-take-le n rest (prefix_len-le-length is_host_byte rest) in
    record {
      url = made.url;
      valid = made.valid;
      web = made.web;
      bare = made.bare;
      spelled = made.spelled ∙ text ∙ ap (λ l. scheme ++ 58 ∷ 47 ∷ 47 ∷ l) (take-append-drop n rest);
      start = made.start ∙ omega (arith, length-append scheme (58 ∷ 47 ∷ 47 ∷ []));
      end = made.end ∙ omega (arith, all, length-append scheme (58 ∷ 47 ∷ 47 ∷ (host ++ [])), length-append host []);
    }
