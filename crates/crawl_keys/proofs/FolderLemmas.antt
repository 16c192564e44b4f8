-- The target of a link depends only on the page's folder.
use Rattle.crawl_keys.proofs.Prelude.{common_steps, nat_tests, ◌≡◌, ◌≢◌, ◌⊎◌, ℕ, zero, suc, ◌<◌, ◌≤◌, ◌-◌, ◌==◌, Bool, true, false, not, List, [], ◌∷◌, ◌++◌, length, get_or, take, refl, ap, sym, subst, ◌∙◌, ⊎_elim, inl, All, Some, None, Ok, arith, append-nil, Option, unwrap_or, filter, prefix_len, suffix_len, position_or_len, list_any, get_or-append_seam, and_left, and_right, and_parts, or_from, or_parts, not-true, eq-eqb, ltb-true, true≢false, cases_eq, cases_lt, cases_Bool, cond_both, cond-true, cond-false, eqb-true, lt-leb, ne_eqb, or_cases, All-nil, All-cons, All-filter, All-head, All-tail, All-take, SpecialNotFile, BeforeScheme, AfterPath, Parts, IsValid, has_authority, kind_of, serialize, text_between, is_empty_nonempty, rsplit_once_at, empty_segment, push_valid, rooted, without_last_valid, parse_url-serialize_special, base_from_authority, hierarchical, special_has_authority, IsPage, is_web, resolve}
use Rattle.std.proofs.lemmas.List.{append_assoc, get_or-reverse, get_or_past, length-append, length-reverse}
use Rattle.url.specs.Input.{is_c0_control_or_space, is_tab_or_new_line, rsplit_once, rsplit_step, split_once, strip_tabs_and_new_lines, trim_c0_control_and_space}
use Rattle.url.specs.Parser.{Parsed, and_then, before_tail, parse_all, parse_body, parse_by_scheme, parse_parts, parse_relative, parse_url, parse_without_scheme, split_scheme, with_tail}
use Rattle.url.specs.Path.{IsSegmentList, shorten_path, without_last_segment}
use Rattle.url.specs.Scheme.{is_file, scheme_len}
use Rattle.crawl_keys.specs.Folders.{folder_text, is_colon, is_of_folder, root_text}
use Rattle.crawl_keys.proofs.CanonicalLemmas.{web_kind}

-- ---- how the parser reads the text

-- the list begins with the byte, and all its bytes have the property
pub record Begins (b : ℕ) (P : ℕ → Type 0) (l : List ℕ) : Type 0 where
  pub rest : List ℕ
  pub is : l ≡ b ∷ rest
  pub all : All P l

-- the longest prefix whose bytes pass ends at a byte that does not pass
prefix_len-stops : (p : ℕ → Bool) (xs : List ℕ) (i : ℕ) → i < length xs → p (get_or xs i 0) ≡ false → prefix_len p xs ≤ i
prefix_len-stops p [] i inside fails = absurd (omega arith)
prefix_len-stops p (x ∷ xs) zero inside fails = rw fails (omega arith)
prefix_len-stops p (x ∷ xs) (suc i) inside fails = grind (arith, cases_Bool, prefix_len-stops p xs i)

-- and the longest suffix begins after such a byte
pub suffix_len-stops : (p : ℕ → Bool) (front : List ℕ) (b : ℕ) (rest : List ℕ) → p b ≡ false → suffix_len p (front ++ b ∷ rest) ≤ length rest
suffix_len-stops p front b rest fails = grind (arith, common_steps, length-append, length-reverse, get_or-reverse, get_or-append_seam, prefix_len-stops)

-- a prefix of a list that is not empty
begins-take : (b : ℕ) (P : ℕ → Type 0) (rest : List ℕ) (n : ℕ) → 0 < n → All P (b ∷ rest) → Begins b P (take n (b ∷ rest))
begins-take b P rest zero some all = absurd (omega arith)
begins-take b P rest (suc n) some all = record { rest = take n rest; is = refl; all = All-take P (suc n) (b ∷ rest) all }

pub begins-trim : (b : ℕ) (P : ℕ → Type 0) (rest : List ℕ) → 32 < b → All P (b ∷ rest) → Begins b P (trim_c0_control_and_space (b ∷ rest))
unfolding trim_c0_control_and_space
begins-trim b P rest above all =
    let fails : is_c0_control_or_space b ≡ false = lt-leb b 32 above in
    let end = suffix_len-stops is_c0_control_or_space [] b rest fails in
    rw fails (begins-take b P rest (length (b ∷ rest) - suffix_len is_c0_control_or_space (b ∷ rest)) (omega (arith, end)) all)

pub begins-strip : (b : ℕ) (P : ℕ → Type 0) (l : List ℕ) → 32 < b → Begins b P l → Begins b P (strip_tabs_and_new_lines l)
unfolding strip_tabs_and_new_lines
begins-strip b P l above k =
    let stays : not (is_tab_or_new_line b) ≡ true = grind (arith, nat_tests) in
    let kept = λ (x : ℕ). not (is_tab_or_new_line x) in
    record {
      rest = filter kept k.rest;
      is = ap (filter kept) k.is ∙ cond-true _ _ _ stays;
      all = All-filter kept P l k.all;
    }

abbrev Split : Type 0
Split = List ℕ × Option (List ℕ)

All-split : (s : ℕ) (P : ℕ → Type 0) (l : List ℕ) → All P l → All P (split_once s l).0
unfolding split_once
All-split s P [] all = All-nil P
All-split s P (x ∷ l) all =
    let later = All-split s P l (All-tail P x l all) in
    cond_both {A = Split} (x == s) ([], Some l) (x ∷ (split_once s l).0, (split_once s l).1) (λ (r : Split). All P r.0) (λ _. All-nil P) (λ _. All-cons P x _ (All-head P x l all) later)

pub begins-split : (b s : ℕ) (P : ℕ → Type 0) (l : List ℕ) → b ≢ s → Begins b P l → Begins b P (split_once s l).0
unfolding split_once
begins-split b s P l other k = record {
  rest = (split_once s k.rest).0;
  is = ap (λ x. (split_once s x).0) k.is ∙ ap (λ (r : Split). r.0) (cond-false _ _ _ (ne_eqb b s other));
  all = All-split s P l k.all;
}

-- if the text had a scheme, a colon would end it
abbrev pub NoScheme : ℕ → ℕ → Type 0
NoScheme b x = (b ≡ 47) ⊎ (x ≢ 58)

pub no_scheme : (b : ℕ) (l : List ℕ) → Begins b (NoScheme b) l → split_scheme l ≡ None
unfolding split_scheme scheme_len
no_scheme b l k = grind (arith, cond-false, and_right, ne_eqb, cases_eq, get_or_past, cases_lt)

-- ---- the parts of the page that the parser uses

-- the folder of the page, as a URL of its own
abbrev folder : Parts → Parts
folder url = record url { path = without_last_segment url.path ++ 47 ∷ []; query = None; fragment = None }

pub front_of_last : (front : List ℕ) → without_last_segment (front ++ 47 ∷ []) ≡ front
front_of_last front = ap (λ (r : Option (List ℕ) × List ℕ). unwrap_or r.0 []) (rsplit_once_at 47 front [] (All-nil _))

pub shorten_web : (path : List ℕ) → shorten_path SpecialNotFile path ≡ without_last_segment path
unfolding shorten_path
shorten_web path = refl

parse_relative-folder : (url : Parts) (body : List ℕ) → kind_of url ≡ SpecialNotFile → parse_relative url body ≡ parse_relative (folder url) body
unfolding parse_relative
parse_relative-folder url body kind = grind (arith, shorten_web, front_of_last)

pub parse_body-web : (url : Parts) (body : List ℕ) → kind_of url ≡ SpecialNotFile → parse_body url.scheme (Some url) body ≡ parse_relative url body
unfolding parse_body
parse_body-web url body kind = cond-false _ _ _ (ap is_file kind)

parse_body-folder : (url : Parts) (body : List ℕ) → kind_of url ≡ SpecialNotFile → parse_body url.scheme (Some url) body ≡ parse_body url.scheme (Some (folder url)) body
parse_body-folder url body kind =
    parse_body-web url body kind ∙ parse_relative-folder url body kind ∙ sym (parse_body-web (folder url) body kind)

parse_parts-more : (url : Parts) (body : List ℕ) (query fragment : Option (List ℕ)) → 0 < length body → parse_parts url.scheme (Some url) body query fragment ≡ parse_all url.scheme (Some url) body query fragment
unfolding parse_parts
parse_parts-more url body query fragment more = cond-false _ _ _ (is_empty_nonempty body more)

pub parse_without_scheme-web : (url : Parts) (body : List ℕ) (query fragment : Option (List ℕ)) → has_authority url ≡ true → 0 < length body → parse_without_scheme (Some url) body query fragment ≡ parse_all url.scheme (Some url) body query fragment
parse_without_scheme-web url body query fragment authority more = grind (arith, cond-false, and_left, base_from_authority, parse_parts-more)

parse_without_scheme-folder : (url : Parts) (body : List ℕ) (query fragment : Option (List ℕ)) → kind_of url ≡ SpecialNotFile → has_authority url ≡ true → 0 < length body → parse_without_scheme (Some url) body query fragment ≡ parse_without_scheme (Some (folder url)) body query fragment
parse_without_scheme-folder url body query fragment kind authority more =
    parse_without_scheme-web url body query fragment authority more
    ∙ ap (λ (r : Parsed Parts). and_then r (λ made. Ok (with_tail (before_tail made query fragment) query fragment))) (parse_body-folder url body kind)
    ∙ sym (parse_without_scheme-web (folder url) body query fragment authority more)

-- ---- the folder's text

-- the list has a slash
pub record Cut (l : List ℕ) : Type 0 where
  pub front : List ℕ
  pub back : List ℕ
  pub at : rsplit_once 47 l ≡ (Some front, back)

cut_step : (rest : List ℕ) (front : Option (List ℕ)) (back : List ℕ) → rsplit_once 47 rest ≡ (front, back) → Cut (47 ∷ rest)
unfolding rsplit_once
cut_step rest (Some front) back is = record { front = 47 ∷ front; back = back; at = ap (λ (r : Option (List ℕ) × List ℕ). rsplit_step 47 47 r.0 r.1) is }
cut_step rest None back is = record { front = []; back = back; at = ap (λ (r : Option (List ℕ) × List ℕ). rsplit_step 47 47 r.0 r.1) is }

pub cut_path : (path : List ℕ) → 0 < length path → (path ≡ []) ⊎ (get_or path 0 0 ≡ 47) → Cut path
cut_path [] some first = absurd (omega arith)
cut_path (b ∷ rest) some first =
    ⊎_elim (λ empty. absurd (let none = ap length empty in omega arith))
    (λ slash. subst (λ x. Cut (x ∷ rest)) (sym slash) (cut_step rest (rsplit_once 47 rest).0 (rsplit_once 47 rest).1 refl))
    first

rsplit-append : (xs ys front back : List ℕ) → rsplit_once 47 ys ≡ (Some front, back) → rsplit_once 47 (xs ++ ys) ≡ (Some (xs ++ front), back)
unfolding rsplit_once
rsplit-append [] ys front back at = at
rsplit-append (x ∷ xs) ys front back at = grind (arith, rsplit-append xs ys front back at)

without_last-append : (xs ys : List ℕ) → Cut ys → without_last_segment (xs ++ ys) ≡ xs ++ without_last_segment ys
without_last-append xs ys k =
    ap (λ (r : Option (List ℕ) × List ℕ). unwrap_or r.0 []) (rsplit-append xs ys k.front k.back k.at)
    ∙ sym (ap (λ (r : Option (List ℕ) × List ℕ). xs ++ unwrap_or r.0 []) k.at)

pub path_text : (url : Parts) → has_authority url ≡ true → text_between url BeforeScheme AfterPath ≡ root_text url ++ url.path
path_text url authority = rw authority (simp (append_assoc, append-nil))

bare_text : (url : Parts) → has_authority url ≡ true → url.query ≡ None → url.fragment ≡ None → serialize url ≡ root_text url ++ url.path
bare_text url authority query fragment = rw (authority, query, fragment) (simp (append_assoc, append-nil))

-- a web URL
pub record IsWeb (url : Parts) : Type 0 where
  pub valid : IsValid url
  pub kind : kind_of url ≡ SpecialNotFile
  pub authority : has_authority url ≡ true
  pub list : IsSegmentList (kind_of url) url.path
  pub some : 0 < length url.path

pub web_url : (url : Parts) → IsValid url → is_web url ≡ true → IsWeb url
web_url url valid web = grind (arith, web_kind, special_has_authority, hierarchical, base_from_authority)

folder_valid : (url : Parts) → IsWeb url → IsValid (folder url)
folder_valid url web =
    let front = without_last_valid (kind_of url) url.path web.list in
    let list = push_valid (kind_of url) (without_last_segment url.path) [] front (empty_segment (kind_of url)) in
    let len = length-append (without_last_segment url.path) (47 ∷ []) in
    record {
      head = record {
        scheme = web.valid.head.scheme;
        username = web.valid.head.username;
        password = web.valid.head.password;
        host = web.valid.head.host;
        port = web.valid.head.port;
        bare = web.valid.head.bare;
      };
      path = inl (list, λ _. omega (arith, len));
      query = tt;
      fragment = tt;
    }

-- the folder's text is after the root
pub folder_text-root : (url : Parts) → IsWeb url → folder_text url ≡ root_text url ++ without_last_segment url.path
unfolding folder_text
folder_text-root url web =
    let cut = cut_path url.path web.some (rooted (kind_of url) url.path web.list) in
    ap without_last_segment (path_text url web.authority) ∙ without_last-append (root_text url) url.path cut

serialize-folder : (url : Parts) → IsWeb url → serialize (folder url) ≡ folder_text url ++ 47 ∷ []
serialize-folder url web = grind (arith, bare_text, append_assoc, folder_text-root)

-- two pages whose folders have the same text have the same folder
same_folder : (one other : Parts) → IsWeb one → IsWeb other → folder_text one ≡ folder_text other → folder one ≡ folder other
same_folder one other its own same =
    let text = serialize-folder one its ∙ ap (λ l. l ++ 47 ∷ []) same ∙ sym (serialize-folder other own) in
    let both = sym (parse_url-serialize_special (folder one) None (folder_valid one its) its.kind) ∙ ap (parse_url None) text ∙ parse_url-serialize_special (folder other) None (folder_valid other own) own.kind in
    cc

-- ---- the whole

-- if the first colon is not in a text, the text has none
pub none_from_first : (p : ℕ → Bool) (l : List ℕ) → position_or_len p l ≡ length l → list_any p l ≡ false
none_from_first p [] first = refl
none_from_first p (x ∷ l) first = grind (arith, or_from, cases_Bool, none_from_first p l)

-- the text begins with a byte that is not trimmed, and has no scheme
pub record IsPlain (text : List ℕ) : Type 0 where
  pub first : ℕ
  pub above : 32 < first
  pub no_query : first ≢ 63
  pub no_fragment : first ≢ 35
  pub begins : Begins first (NoScheme first) text

no_colon : (l : List ℕ) → list_any is_colon l ≡ false → All (λ x. x ≢ 58) l
no_colon [] none = All-nil (λ x. x ≢ 58)
no_colon (x ∷ l) none = grind (arith, or_parts, eq-eqb, no_colon l)

differs : (b s : ℕ) → not (b == s) ≡ true → b ≢ s
differs b s other same = true≢false (sym (eq-eqb b s same) ∙ not-true _ other)

pub plain_link_text : (text : List ℕ) → is_of_folder text ≡ true → IsPlain text
plain_link_text text plain = grind (arith, common_steps, true≢false, and_parts, ltb-true, differs, eqb-true, no_colon, not-true, or_cases)

pub begins-text : (text : List ℕ) (k : IsPlain text) → Begins k.first (NoScheme k.first) (strip_tabs_and_new_lines (trim_c0_control_and_space text))
begins-text text k =
    let P = NoScheme k.first in
    let trimmed = subst (λ t. Begins k.first P (trim_c0_control_and_space t)) (sym k.begins.is) (begins-trim k.first P k.begins.rest k.above (subst (All P) k.begins.is k.begins.all)) in
    begins-strip k.first P _ k.above trimmed

parse_url-folder : (url : Parts) (text : List ℕ) → IsWeb url → IsPlain text → parse_url (Some url) text ≡ parse_url (Some (folder url)) text
unfolding parse_url
parse_url-folder url text web k =
    let P = NoScheme k.first in
    let hash = split_once 35 (strip_tabs_and_new_lines (trim_c0_control_and_space text)) in
    let question = split_once 63 hash.0 in
    let body = begins-split k.first 63 P hash.0 k.no_query (begins-split k.first 35 P _ k.no_fragment (begins-text text k)) in
    let none = no_scheme k.first question.0 body in
    let len = ap length body.is in
    ap (λ s. parse_by_scheme s (Some url) question.0 question.1 hash.1) none
    ∙ parse_without_scheme-folder url question.0 question.1 hash.1 web.kind web.authority (omega (arith, len))
    ∙ sym (ap (λ s. parse_by_scheme s (Some (folder url)) question.0 question.1 hash.1) none)

pub resolve-of_folder : (one other : Parts) → IsValid one → IsValid other → IsPage one → IsPage other → folder_text one ≡ folder_text other → (text : List ℕ) → is_of_folder text ≡ true → resolve (serialize one) text ≡ resolve (serialize other) text
resolve-of_folder one other valid its_valid page its_page same text plain = grind (arith, plain_link_text, web_url, same_folder, parse_url-folder)
