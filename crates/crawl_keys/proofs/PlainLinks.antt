-- The targets of links in common forms: the parser's relative state on texts that it leaves unchanged.
use Rattle.crawl_keys.proofs.Prelude.{common_steps, ◌≡◌, ℕ, zero, suc, ◌+◌, ◌<◌, ◌==◌, true, false, List, [], ◌∷◌, ◌++◌, length, get_or, drop, reverse, refl, ap, sym, subst, ◌∙◌, ⊎_elim, inl, All, Some, None, Ok, IfSome, arith, append_assoc, append-nil, length-append, take_all, add-one, Option, if◌then◌else◌, prefix_len, and_left, and_parts, cond-false, cond_both, eqb-true, lt-leb, or_cases, true≢false, nat_tests, flat_map-append, get_or-reverse, length-reverse, All-nil, All-cons, All-append, All-from_get_or, All-head, All-weaker, IsKept, SchemeType, SpecialNotFile, SPECIAL_QUERY, BeforeHost, AfterHost, head_only, Parts, IsValid, kind_of, offset, query_set, serialize, All_from_list_all, IsNot, Passes, StopsAt, filter_all, list_all_from_All, split_once_none, IsNoSlash, parse_path_more, without_last_valid, parse_after_slash, parse_own_segments, stays_unless_file, base_from_authority, option_unchanged, IsPage, resolve, text_of_parse, is_of_folder, root_text, IsInFolder, above, after_ups, has_no_scheme, is_query, is_rooted, is_same, first_is_slash, is_kept, is_plain, may_follow, IsSpelled}
use Rattle.url.specs.Input.{is_c0_control_or_space, split_once, strip_tabs_and_new_lines, trim_c0_control_and_space}
use Rattle.url.specs.Parser.{Parsed, after_double_slash, after_slashes, and_then, before_tail, inherit, leading_slashes, parse_by_scheme, parse_parts, parse_relative, parse_url, parse_without_scheme, split_scheme, with_path, with_tail}
use Rattle.url.specs.Path.{IsSegment, IsSegmentList, dot_count, join_segments, parse_path, push_segment, shorten_path, without_last_segment}
use Rattle.url.specs.Scheme.{is_file, is_slash, scheme_len}
use Rattle.url.proofs.ParsedCanonical.{before_special}
use Rattle.crawl_keys.proofs.CanonicalLemmas.{text_of-web}
use Rattle.crawl_keys.proofs.FolderLemmas.{IsWeb, NoScheme, begins-split, begins-strip, begins-trim, no_scheme, parse_body-web, parse_without_scheme-web, plain_link_text, shorten_web, web_url}
use Rattle.crawl_keys.proofs.PlainLemmas.{all_kept, no_sign_byte, query_byte, query_text, run_segment, runs, splits, visible_byte}
use Rattle.crawl_keys.proofs.SpelledLemmas.{IsRest, plain_rest, rest_text, spelled_at, spelled_rest, with_rest}

-- ---- nothing is trimmed, stripped or cut

abbrev Visible : ℕ → Type 0
Visible b = 32 < b

none_in_front : (xs : List ℕ) → All Visible xs → prefix_len is_c0_control_or_space xs ≡ 0
none_in_front xs all = grind (arith, common_steps, cond-false, lt-leb)

untrimmed : (xs : List ℕ) → All Visible xs → trim_c0_control_and_space xs ≡ xs
unfolding trim_c0_control_and_space
untrimmed xs all =
    let len = length-reverse xs in
    let turned = All-from_get_or Visible (reverse xs) 0 (λ i inside. rw (get_or-reverse xs i 0 (omega arith)) (all _ 0 (omega arith))) in
    let start = none_in_front xs all in
    let end = none_in_front (reverse xs) turned in
    rw (start, end) (take_all _ xs (omega arith))

unstripped : (xs : List ℕ) → All Visible xs → strip_tabs_and_new_lines xs ≡ xs
unfolding strip_tabs_and_new_lines
unstripped xs all = grind (arith, filter_all)

-- the whole text is left
pub uncut : (text : List ℕ) → All (Passes is_kept) text → split_once 35 (strip_tabs_and_new_lines (trim_c0_control_and_space text)) ≡ (text, None)
uncut text kept =
    let visible = All-weaker (Passes is_kept) Visible visible_byte text kept in
    ap (λ t. split_once 35 (strip_tabs_and_new_lines t)) (untrimmed text visible)
    ∙ ap (split_once 35) (unstripped text visible)
    ∙ split_once_none 35 text (All-weaker (Passes is_kept) (IsNot 35) no_sign_byte text kept)

abbrev Split : Type 0
Split = List ℕ × Option (List ℕ)

-- how the parser reads a kept text with no scheme
pub parse_url-kept : (base : Parts) (text body : List ℕ) (query : Option (List ℕ)) → All (Passes is_kept) text → split_once 63 text ≡ (body, query) → split_scheme body ≡ None
    → parse_url (Some base) text ≡ parse_without_scheme (Some base) body query None
unfolding parse_url
parse_url-kept base text body query kept split none = grind (arith, uncut)

-- the last step leaves a kept query unchanged
tail_of : (base : Parts) (path : List ℕ) (query : Option (List ℕ)) → kind_of base ≡ SpecialNotFile → IfSome query (All (IsKept SPECIAL_QUERY))
    → with_tail (before_tail (with_path (head_only base) path) query None) query None ≡ with_rest base path query
tail_of base path query kind kept = grind (arith, option_unchanged, before_special, with_rest)

-- a kept text leads to the page's URL with this path, if the relative state gives that path
pub parse_url-path : (base : Parts) (text body path : List ℕ) (query : Option (List ℕ)) → IsWeb base → All (Passes is_kept) text → split_once 63 text ≡ (body, query) → split_scheme body ≡ None
    → 0 < length body → IfSome query (All (IsKept SPECIAL_QUERY)) → parse_relative base body ≡ Ok (with_path (head_only base) path)
    → parse_url (Some base) text ≡ Ok (with_rest base path query)
parse_url-path base text body path query web kept split none some own relative =
    parse_url-kept base text body query kept split none
    ∙ parse_without_scheme-web base body query None web.authority some
    ∙ ap (λ (r : Parsed Parts). and_then r (λ made. Ok (with_tail (before_tail made query None) query None))) (parse_body-web base body web.kind ∙ relative)
    ∙ ap (λ u. Ok u) (tail_of base path query web.kind own)

-- ---- `/path`

-- a text that begins with a slash has no scheme
pub rooted_scheme : (more : List ℕ) → split_scheme (47 ∷ more) ≡ None
rooted_scheme more =
    no_scheme 47 (47 ∷ more) (record { rest = more; is = refl; all = λ n d inside. inl refl })

pub one_slash : (kind : SchemeType) (rest : List ℕ) → StopsAt (is_slash kind) rest → leading_slashes kind (47 ∷ rest) ≡ 1
unfolding leading_slashes
one_slash kind rest stops = grind arith

-- a text that is plain after a slash does not begin with a slash
stops_plain : (text : List ℕ) → is_plain 47 text ≡ true → StopsAt (is_slash SpecialNotFile) text
stops_plain text plain = grind arith

-- the relative state, by the number of slashes in front
abbrev pub relative_by : Parts → List ℕ → ℕ → Parsed Parts
relative_by base body slashes =
    let kind = kind_of base in
    let start = inherit base (slashes == 0) in
    if slashes == 2 then after_double_slash base.scheme (after_slashes kind body)
    else Ok (with_path start (parse_path kind start.path (drop slashes body)))

rooted_relative : (base : Parts) (more : List ℕ) → kind_of base ≡ SpecialNotFile → StopsAt (is_slash SpecialNotFile) more → IsSegmentList SpecialNotFile (47 ∷ more)
    → parse_relative base (47 ∷ more) ≡ Ok (with_path (head_only base) (47 ∷ more))
unfolding parse_relative
rooted_relative base more kind stops list =
    let own = subst (λ k. IsSegmentList k (47 ∷ more)) (sym kind) list in
    ap (relative_by base (47 ∷ more)) (one_slash (kind_of base) more (subst (λ k. StopsAt (is_slash k) more) (sym kind) stops))
    ∙ ap (λ p. Ok (with_path (head_only base) p)) (parse_after_slash (kind_of base) (47 ∷ more) (stays_unless_file (kind_of base) [] _ (ap is_file kind)) own (omega arith))

rooted_more : (base : Parts) (more : List ℕ) → IsWeb base → is_plain 0 (47 ∷ more) ≡ true
    → parse_url (Some base) (47 ∷ more) ≡ Ok (with_rest base (split_once 63 (47 ∷ more)).0 (split_once 63 (47 ∷ more)).1)
unfolding split_once
rooted_more base more web plain =
    let body = (split_once 63 more).0 in
    let split = splits 47 more (and_parts (may_follow 0 47) (is_plain 47 more) plain).1 in
    let rest = plain_rest 0 (47 ∷ more) refl plain in
    parse_url-path base (47 ∷ more) (47 ∷ body) (47 ∷ body) (split_once 63 more).1 web (all_kept 0 (47 ∷ more) plain) refl (rooted_scheme body) (omega arith) rest.kept
    (rooted_relative base body web.kind (stops_plain body split.plain) rest.list)

parse_url-rooted : (base : Parts) (text : List ℕ) → IsWeb base → get_or text 0 0 ≡ 47 → is_plain 0 text ≡ true
    → parse_url (Some base) text ≡ Ok (with_rest base (split_once 63 text).0 (split_once 63 text).1)
parse_url-rooted base text web slash plain = grind (arith, common_steps, with_rest, rooted_more)

-- the target of a link that replaces the path and the query
pub resolve-rest : (base : Parts) (link text path : List ℕ) (query : Option (List ℕ)) → IsValid base → IsPage base → IsRest text path query
    → parse_url (Some base) link ≡ Ok (with_rest base path query) → resolve (serialize base) link ≡ Ok (root_text base ++ text)
resolve-rest base link text path query valid page rest parses = grind (arith, web_url, text_of-web, with_rest, rest_text)

-- the target of a link that begins with a slash
pub resolve-rooted : (base : Parts) (text : List ℕ) → IsValid base → IsPage base → is_rooted text ≡ true → resolve (serialize base) text ≡ Ok (root_text base ++ text)
resolve-rooted base text valid page rooted = grind (arith, and_parts, eqb-true, resolve-rest, plain_rest, parse_url-rooted, web_url)

pub spelled_rooted : (base : Parts) (root text : List ℕ) (start end : ℕ) → IsValid base → IsPage base → is_rooted text ≡ true → root ≡ root_text base → start ≡ offset base BeforeHost → end ≡ offset base AfterHost → IsSpelled (root ++ text) start end
spelled_rooted base root text start end valid page rooted is first last = grind (arith, common_steps, and_parts, spelled_rest, plain_rest, eqb-true, spelled_at)

-- ---- `path`, and `../path`

pub no_slashes : (kind : SchemeType) (body : List ℕ) → StopsAt (is_slash kind) body → leading_slashes kind body ≡ 0
unfolding leading_slashes
no_slashes kind body stops = grind arith

pub split_ups : (n : ℕ) (text : List ℕ) → split_once 63 (after_ups n text) ≡ (after_ups n (split_once 63 text).0, (split_once 63 text).1)
unfolding split_once
split_ups zero text = refl
split_ups (suc n) text = ap (λ (r : Split). (46 ∷ 46 ∷ 47 ∷ r.0, r.1)) (split_ups n text)

up_last : (n : ℕ) (path : List ℕ) → above n (without_last_segment path) ≡ without_last_segment (above n path)
up_last zero path = refl
up_last (suc n) path = ap without_last_segment (up_last n path)

push_up : (path : List ℕ) → push_segment SpecialNotFile path (46 ∷ 46 ∷ []) false ≡ without_last_segment path
unfolding push_segment dot_count shorten_path
push_up path = append-nil (without_last_segment path)

pub parse_ups : (path : List ℕ) (n : ℕ) (body : List ℕ) → parse_path SpecialNotFile path (after_ups n body) ≡ parse_path SpecialNotFile (above n path) body
parse_ups path zero body = refl
parse_ups path (suc n) body =
    let P = IsNoSlash SpecialNotFile in
    parse_path_more SpecialNotFile path (46 ∷ 46 ∷ []) 47 (after_ups n body) (All-cons P 46 (46 ∷ []) refl (All-cons P 46 [] refl (All-nil P))) refl
    ∙ ap (λ p. parse_path SpecialNotFile p (after_ups n body)) (push_up path)
    ∙ parse_ups (without_last_segment path) n body
    ∙ ap (λ p. parse_path SpecialNotFile p body) (up_last n path)

-- the page's folder, or one above it, and a path after it
abbrev pub in_folder : Parts → ℕ → List ℕ → List ℕ
in_folder base n body = above n (without_last_segment base.path) ++ 47 ∷ body

pub parse_run : (path body : List ℕ) → is_plain 47 body ≡ true → All (IsNot 63) body → parse_path SpecialNotFile path body ≡ path ++ 47 ∷ body
parse_run path body plain none =
    let run = runs 47 body plain none in
    ap (parse_path SpecialNotFile path) run.is
    ∙ parse_own_segments SpecialNotFile path run.first run.others (stays_unless_file SpecialNotFile path run.first refl) (run_segment body run) run.each
    ∙ ap (λ b. path ++ 47 ∷ b) (sym run.is)

-- the parser's relative state on a text that it reads like this path in the n-th folder above the page's
folder_relative : (base : Parts) (n : ℕ) (text body : List ℕ) → IsWeb base → StopsAt (is_slash SpecialNotFile) text
    → ((front : List ℕ) → parse_path SpecialNotFile front text ≡ parse_path SpecialNotFile (above n front) body) → is_plain 47 body ≡ true → All (IsNot 63) body
    → parse_relative base text ≡ Ok (with_path (head_only base) (in_folder base n body))
unfolding parse_relative
folder_relative base n text body web stops reads plain none = grind (arith, shorten_web, parse_run, no_slashes)

append_list : (kind : SchemeType) (path : List ℕ) (segments : List (List ℕ)) → IsSegmentList kind path → All (IsSegment kind) segments → IsSegmentList kind (path ++ join_segments segments)
append_list kind path segments list each = record {
  segments = list.segments ++ segments;
  joined = ap (λ p. p ++ join_segments segments) list.joined ∙ sym (flat_map-append (λ s. 47 ∷ s) list.segments segments);
  each = All-append (IsSegment kind) list.segments segments list.each each;
}

up_list : (kind : SchemeType) (n : ℕ) (path : List ℕ) → IsSegmentList kind path → IsSegmentList kind (above n path)
up_list kind zero path list = list
up_list kind (suc n) path list = without_last_valid kind (above n path) (up_list kind n path list)

folder_list : (base : Parts) (n : ℕ) (body : List ℕ) → IsWeb base → is_plain 47 body ≡ true → All (IsNot 63) body → IsSegmentList SpecialNotFile (in_folder base n body)
folder_list base n body web plain none =
    let run = runs 47 body plain none in
    let own = without_last_segment base.path in
    let front = up_list SpecialNotFile n own (without_last_valid SpecialNotFile base.path (subst (λ k. IsSegmentList k base.path) web.kind web.list)) in
    subst (λ b. IsSegmentList SpecialNotFile (above n own ++ 47 ∷ b)) (sym run.is)
    (append_list SpecialNotFile (above n own) (run.first ∷ run.others) front
    (All-cons (IsSegment SpecialNotFile) run.first run.others (run_segment body run) run.each))

folder_rest : (base : Parts) (n : ℕ) (rest : List ℕ) → IsWeb base → is_plain 47 rest ≡ true → IsRest (in_folder base n rest) (in_folder base n (split_once 63 rest).0) (split_once 63 rest).1
folder_rest base n rest web plain =
    let split = splits 47 rest plain in
    let front = above n (without_last_segment base.path) in
    let body = (split_once 63 rest).0 in
    record {
      list = folder_list base n body web split.plain split.none;
      some = omega (arith, length-append front (47 ∷ body));
      kept = split.kept;
      whole = ap (λ t. front ++ 47 ∷ t) split.whole ∙ sym (append_assoc front (47 ∷ body) (query_text (split_once 63 rest).1));
    }

-- a text that depends on the folder has a path, and no scheme
record HasPath (text : List ℕ) : Type 0 where
  none : split_scheme (split_once 63 text).0 ≡ None
  some : 0 < length (split_once 63 text).0

has_path : (text : List ℕ) → is_of_folder text ≡ true → HasPath text
has_path text folder =
    let k = plain_link_text text folder in
    let body = begins-split k.first 63 (NoScheme k.first) text k.no_query k.begins in
    let len = ap length body.is in
    record { none = no_scheme k.first (split_once 63 text).0 body; some = omega (arith, len) }

no_up_scheme : (text : List ℕ) → split_scheme (46 ∷ text) ≡ None
unfolding split_scheme scheme_len
no_up_scheme text = refl

-- so has a text that begins with a dot
dot_path : (text : List ℕ) → HasPath (46 ∷ text)
unfolding split_once
dot_path text = record { none = no_up_scheme (split_once 63 text).0; some = omega arith }

path_of : (text : List ℕ) → has_no_scheme text ≡ true → HasPath text
path_of [] test = absurd (true≢false (sym test))
path_of (b ∷ text) test =
    ⊎_elim (λ dot. subst (λ x. HasPath (x ∷ text)) (sym (eqb-true b 46 dot)) (dot_path text)) (λ folder. has_path (b ∷ text) folder) (or_cases _ _ test)

kept_slash : (b : ℕ) → Passes is_kept b → (b == 47) ≡ false → is_slash SpecialNotFile b ≡ false
kept_slash b kept other = grind (arith, nat_tests)

pub stops_kept : (text : List ℕ) → All (Passes is_kept) text → first_is_slash text ≡ false → StopsAt (is_slash SpecialNotFile) (split_once 63 text).0
unfolding split_once
stops_kept [] kept rootless = tt
stops_kept (b ∷ text) kept rootless =
    cond_both {A = Split} (b == 63) ([], Some text) (b ∷ (split_once 63 text).0, (split_once 63 text).1) (λ (r : Split). StopsAt (is_slash SpecialNotFile) r.0)
    (λ _. tt) (λ _. kept_slash b (All-head (Passes is_kept) b text kept) rootless)

begins_other : (b : ℕ) → may_follow 47 b ≡ true → (b == 47) ≡ false
begins_other b test = grind (arith, nat_tests)

pub rootless_plain : (rest : List ℕ) → is_plain 47 rest ≡ true → first_is_slash rest ≡ false
rootless_plain rest plain = grind (arith, common_steps, begins_other, and_parts)

parse_url-folder : (base : Parts) (text : List ℕ) (n : ℕ) (rest : List ℕ) → IsWeb base → IsInFolder text n rest
    → parse_url (Some base) text ≡ Ok (with_rest base (in_folder base n (split_once 63 rest).0) (split_once 63 rest).1)
parse_url-folder base text n rest web k =
    let body = (split_once 63 text).0 in
    let query = (split_once 63 text).1 in
    let own = (split_once 63 rest).0 in
    let split = splits 47 rest k.plain in
    let path = path_of text k.no_scheme in
    let reads = k.following.reads in
    let kept = All_from_list_all is_kept text (k.following.kept (list_all_from_All is_kept rest (all_kept 47 rest k.plain))) in
    let stops = stops_kept text kept (k.following.rootless (rootless_plain rest k.plain)) in
    parse_url-path base text body (in_folder base n own) query web kept refl path.none path.some (subst (λ q. IfSome q (All (IsKept SPECIAL_QUERY))) (sym reads.query) split.kept)
    (folder_relative base n body own web stops reads.path split.plain split.none)
    ∙ ap (λ q. Ok (with_rest base (in_folder base n own) q)) reads.query

-- the target of a link to a path in the page's folder, or in one above it
pub resolve-in_folder : (base : Parts) (text : List ℕ) (n : ℕ) (rest : List ℕ) → IsValid base → IsPage base → IsInFolder text n rest → resolve (serialize base) text ≡ Ok (root_text base ++ in_folder base n rest)
resolve-in_folder base text n rest valid page link =
    let web = web_url base valid page.web in
    resolve-rest base text (in_folder base n rest) _ _ valid page (folder_rest base n rest web link.plain) (parse_url-folder base text n rest web link)

pub spelled_in_folder : (base : Parts) (text : List ℕ) (n : ℕ) (rest own : List ℕ) (start end : ℕ) → IsValid base → IsPage base → IsInFolder text n rest → own ≡ root_text base ++ in_folder base n rest → start ≡ offset base BeforeHost → end ≡ offset base AfterHost → IsSpelled own start end
spelled_in_folder base text n rest own start end valid page link is first last =
    let web = web_url base valid page.web in
    let k = spelled_rest base (in_folder base n rest) _ _ valid.head page.web (folder_rest base n rest web link.plain) in
    spelled_at own (offset base BeforeHost) (offset base AfterHost) start end (subst (λ t. IsSpelled t (offset base BeforeHost) (offset base AfterHost)) (sym is) k) first last

-- ---- `?query`

no_text_scheme : split_scheme [] ≡ None
unfolding split_scheme scheme_len
no_text_scheme = refl

query_parts : (base : Parts) (query : List ℕ) → IsWeb base → All (IsKept SPECIAL_QUERY) query → parse_without_scheme (Some base) [] (Some query) None ≡ Ok (with_rest base base.path (Some query))
unfolding parse_parts
query_parts base query web kept =
    let own = subst (λ k. All (IsKept (query_set k)) query) (sym web.kind) kept in
    let same = option_unchanged (query_set (kind_of base)) (Some query) own in
    cond-false _ _ _ (and_left _ _ (base_from_authority base web.authority)) ∙ (λ i. Ok (with_rest base base.path (same i)))

query_split : (query : List ℕ) → split_once 63 (63 ∷ query) ≡ ([], Some query)
unfolding split_once
query_split query = refl

query_rest : (base : Parts) (query : List ℕ) → IsWeb base → All (IsKept SPECIAL_QUERY) query → IsRest (base.path ++ 63 ∷ query) base.path (Some query)
query_rest base query web kept = grind arith

query_kept : (query : List ℕ) → is_plain 0 (63 ∷ query) ≡ true → All (IsKept SPECIAL_QUERY) query
query_kept query plain = grind (arith, common_steps, query_byte, all_kept)

resolve_query : (base : Parts) (query : List ℕ) → IsValid base → IsPage base → is_plain 0 (63 ∷ query) ≡ true → resolve (serialize base) (63 ∷ query) ≡ Ok (root_text base ++ (base.path ++ 63 ∷ query))
resolve_query base query valid page plain =
    let web = web_url base valid page.web in
    let kept = query_kept query plain in
    resolve-rest base (63 ∷ query) (base.path ++ 63 ∷ query) base.path (Some query) valid page (query_rest base query web kept)
    (parse_url-kept base (63 ∷ query) [] (Some query) (all_kept 0 (63 ∷ query) plain) (query_split query) no_text_scheme ∙ query_parts base query web kept)

-- the target of a link that is only a query
pub resolve-query : (base : Parts) (text : List ℕ) → IsValid base → IsPage base → is_query text ≡ true → resolve (serialize base) text ≡ Ok (root_text base ++ (base.path ++ text))
resolve-query base text valid page query = grind (arith, common_steps, true≢false, and_parts, eqb-true, resolve_query)

spelled_only : (base : Parts) (query : List ℕ) → IsValid base → IsPage base → is_plain 0 (63 ∷ query) ≡ true → IsSpelled (root_text base ++ (base.path ++ 63 ∷ query)) (offset base BeforeHost) (offset base AfterHost)
spelled_only base query valid page plain =
    spelled_rest base (base.path ++ 63 ∷ query) base.path (Some query) valid.head page.web (query_rest base query (web_url base valid page.web) (query_kept query plain))

spelled_any : (base : Parts) (text : List ℕ) → IsValid base → IsPage base → is_query text ≡ true → IsSpelled (root_text base ++ (base.path ++ text)) (offset base BeforeHost) (offset base AfterHost)
spelled_any base [] valid page query = absurd (true≢false (sym query))
spelled_any base (b ∷ text) valid page query =
    let parts = and_parts _ _ query in
    subst (λ x. is_plain 0 (x ∷ text) ≡ true → IsSpelled (root_text base ++ (base.path ++ x ∷ text)) (offset base BeforeHost) (offset base AfterHost)) (sym (eqb-true b 63 parts.0)) (spelled_only base text valid page) parts.1

pub spelled_query : (base : Parts) (own text : List ℕ) (start end : ℕ) → IsValid base → IsPage base → is_query text ≡ true → own ≡ root_text base ++ (base.path ++ text) → start ≡ offset base BeforeHost → end ≡ offset base AfterHost → IsSpelled own start end
spelled_query base own text start end valid page query is first last = grind (arith, common_steps, spelled_at, spelled_any)

-- ---- an empty link, or only a fragment

same_parts : (base : Parts) (fragment : Option (List ℕ)) → IsWeb base → IsPage base → text_of_parse (parse_without_scheme (Some base) [] None fragment) ≡ Ok (serialize base)
unfolding parse_parts
same_parts base fragment web page = grind (arith, cond-false, and_left, base_from_authority, option_unchanged, text_of-web)

same_empty : (base : Parts) → IsWeb base → IsPage base → text_of_parse (parse_url (Some base) []) ≡ Ok (serialize base)
unfolding parse_url trim_c0_control_and_space strip_tabs_and_new_lines split_once
same_empty base web page = grind (arith, no_text_scheme, same_parts)

same_fragment : (base : Parts) (text : List ℕ) → IsWeb base → IsPage base → text_of_parse (parse_url (Some base) (35 ∷ text)) ≡ Ok (serialize base)
unfolding parse_url split_once
same_fragment base text web page =
    let P = λ (b : ℕ). Unit {0} in
    let trimmed = begins-trim 35 P text (omega arith) (λ n d inside. tt) in
    let begins = begins-strip 35 P (trim_c0_control_and_space (35 ∷ text)) (omega arith) trimmed in
    let parsed = λ (t : List ℕ). let hash = split_once 35 t in let question = split_once 63 hash.0 in text_of_parse (parse_by_scheme (split_scheme question.0) (Some base) question.0 question.1 hash.1) in
    ap parsed begins.is
    ∙ ap (λ s. text_of_parse (parse_by_scheme s (Some base) [] None (Some begins.rest))) no_text_scheme
    ∙ same_parts base (Some begins.rest) web page

-- such a link leads to the page
pub resolve-same : (base : Parts) (text : List ℕ) → IsValid base → IsPage base → is_same text ≡ true → resolve (serialize base) text ≡ Ok (serialize base)
resolve-same base text valid page same = grind (arith, web_url, same_empty, eqb-true, same_fragment)

-- one more `../`
pub after_more : (n : ℕ) (text : List ℕ) → after_ups n (46 ∷ 46 ∷ 47 ∷ text) ≡ after_ups (n + 1) text
after_more n text = one_more n text ∙ ap (λ k. after_ups k text) (sym (add-one n))
  where
    one_more : (n : ℕ) (text : List ℕ) → after_ups n (46 ∷ 46 ∷ 47 ∷ text) ≡ after_ups (suc n) text
    one_more zero text = refl
    one_more (suc n) text = ap (λ l. 46 ∷ 46 ∷ 47 ∷ l) (one_more n text)
