-- The ends of a page's root and folder in the text of its URL, and the URLs that common link forms lead to from there.
use Rattle.crawl_keys.proofs.Prelude.{common_steps, ◌≡◌, ◌⊎◌, ℕ, zero, suc, ◌+◌, ◌-◌, ◌<◌, true, List, [], ◌∷◌, ◌++◌, length, get_or, take, drop, refl, ap, sym, subst, ◌∙◌, ⊎_elim, inr, All, Some, None, Ok, arith, append_assoc, append-nil, length-append, length-drop, take_all, take_at, drop_at, Option, slice_range, decimal, is_some, option_map, unwrap_or, prefix_len, nat_tests, All-weaker, BeforeScheme, BeforeHost, AfterHost, AfterPath, Parts, IsValid, has_authority, kind_of, offset, serialize, text_before, text_between, SpecialNotFile, IsSegmentList, without_last_segment, Passes, StopsAt, prefix_len_at, rooted, without_last_valid, IsBase, IsCanonical, IsPage, resolve, IsInFolder, above, folder_above, is_query, is_rooted, is_same, is_other, IsSpelled}
use Rattle.url.specs.Input.{rsplit_once, when}
use Rattle.url.specs.Parser.{parse_url}
use Rattle.url.proofs.TextLemmas.{All-concat, All_one, body_bytes, is_body_byte, is_host_byte, port_bytes}
use Rattle.crawl_keys.specs.Folders.{folder_text, is_of_folder, root_text}
use Rattle.crawl_keys.proofs.FolderLemmas.{IsWeb, cut_path, folder_text-root, front_of_last, path_text, resolve-of_folder, web_url}
use Rattle.crawl_keys.proofs.PlainLemmas.{query_text}
use Rattle.crawl_keys.proofs.PlainLinks.{in_folder, resolve-in_folder, resolve-query, resolve-rooted, resolve-same, spelled_query, spelled_in_folder, spelled_rooted}
use Rattle.crawl_keys.proofs.SpelledLemmas.{parse_spelled, resolve-spelled}

-- a slice from the start
pub front_slice : (xs own : List ℕ) (n : ℕ) → own ≡ xs → slice_range own 0 n ≡ take n xs
front_slice xs own n same = grind arith

-- a slice to the end
pub back_slice : (xs own : List ℕ) (n : ℕ) → own ≡ xs → take (length own - n) (drop n own) ≡ drop n xs
back_slice xs own n same = take_all (length own - n) (drop n own) (omega (arith, length-drop n own)) ∙ ap (drop n) same

-- ---- the URL of a text

-- a text parses to at most one URL
pub one_url : (text : List ℕ) (one other : Parts) → parse_url None text ≡ Ok one → parse_url None text ≡ Ok other → one ≡ other
one_url text one other its own = grind arith

-- a canonical text is that of a page
pub page_of : (text : List ℕ) (k : IsCanonical text) → IsPage k.url
page_of text k = grind arith

pub own_start : (text : List ℕ) (start end : ℕ) (k : IsCanonical text) (s : IsSpelled text start end) → start ≡ offset k.url BeforeHost
own_start text start end k s =
    sym s.start ∙ ap (λ u. offset u BeforeHost) (one_url text s.url k.url (parse_spelled text start end None s) k.parses)

pub own_end : (text : List ℕ) (start end : ℕ) (k : IsCanonical text) (s : IsSpelled text start end) → end ≡ offset k.url AfterHost
own_end text start end k s =
    sym s.end ∙ ap (λ u. offset u AfterHost) (one_url text s.url k.url (parse_spelled text start end None s) k.parses)

-- ---- the end of the root

pub page_text : (url : Parts) → has_authority url ≡ true → url.fragment ≡ None → serialize url ≡ root_text url ++ (url.path ++ query_text url.query)
page_text url authority bare = rw (authority, bare) (simp (append_assoc, append-nil))

-- the colon and the port, if there is one
abbrev port_text : Parts → List ℕ
port_text url = when (is_some url.port) (58 ∷ []) ++ unwrap_or (option_map decimal url.port) []

host_text : (url : Parts) → root_text url ≡ text_before url AfterHost ++ port_text url
host_text url = simp (append_assoc, append-nil)

no_slash : (b : ℕ) → Passes is_host_byte b → Passes (is_other 47) b
no_slash b passes = grind (arith, nat_tests)

port_other : (url : Parts) → IsValid url → All (Passes (is_other 47)) (port_text url)
port_other url valid =
    let P = Passes is_host_byte in
    let all = All-concat P (when (is_some url.port) (58 ∷ []) ∷ unwrap_or (option_map decimal url.port) [] ∷ []) (All_one P (is_some url.port) 58 refl, (port_bytes url.scheme url.port valid.head.port, tt)) in
    All-weaker P (Passes (is_other 47)) no_slash (port_text url) (subst (All P) (simp append-nil) all)

stops_at_root : (path rest : List ℕ) → 0 < length path → (path ≡ []) ⊎ (get_or path 0 0 ≡ 47) → StopsAt (is_other 47) (path ++ rest)
stops_at_root path rest some first = grind (arith, common_steps)

-- the root ends at the first slash after the host
root_place : (url : Parts) → IsWeb url → url.fragment ≡ None → length (root_text url) ≡ offset url AfterHost + prefix_len (is_other 47) (drop (offset url AfterHost) (serialize url))
root_place url web bare =
    let before = text_before url AfterHost in
    let rest = url.path ++ query_text url.query in
    let all : serialize url ≡ before ++ (port_text url ++ rest) = page_text url web.authority bare ∙ ap (λ r. r ++ rest) (host_text url) ∙ append_assoc before (port_text url) rest in
    let following = ap (drop (length before)) all ∙ drop_at before (port_text url ++ rest) (length before) refl in
    let stops = stops_at_root url.path (query_text url.query) web.some (rooted (kind_of url) url.path web.list) in
    let len = ap (prefix_len (is_other 47)) following ∙ prefix_len_at (is_other 47) (port_text url) rest (port_other url web.valid) stops in
    omega (arith, len, ap length (host_text url), length-append before (port_text url))

-- ---- the end of the folder

no_question : (b : ℕ) → Passes is_body_byte b → Passes (is_other 63) b
no_question b passes = grind (arith, nat_tests)

stops_at_query : (query : Option (List ℕ)) → StopsAt (is_other 63) (query_text query)
stops_at_query query = grind arith

-- the path ends at the first question mark
path_place : (url : Parts) → IsWeb url → url.fragment ≡ None → take (prefix_len (is_other 63) (serialize url)) (serialize url) ≡ text_between url BeforeScheme AfterPath
path_place url web bare =
    let front = text_between url BeforeScheme AfterPath in
    let all : serialize url ≡ front ++ query_text url.query = page_text url web.authority bare ∙ sym (append_assoc (root_text url) url.path (query_text url.query)) ∙ ap (λ f. f ++ query_text url.query) (sym (path_text url web.authority)) in
    let passes = All-weaker (Passes is_body_byte) (Passes (is_other 63)) no_question front (body_bytes url web.valid) in
    let len = ap (prefix_len (is_other 63)) all ∙ prefix_len_at (is_other 63) front (query_text url.query) passes (stops_at_query url.query) in
    (λ i. take (len i) (all i)) ∙ take_at front (query_text url.query) (length front) refl

-- the folder ends after the last slash before the first question mark
folder_place : (url : Parts) → IsWeb url → url.fragment ≡ None → without_last_segment (take (prefix_len (is_other 63) (serialize url)) (serialize url)) ≡ folder_text url
unfolding folder_text
folder_place url web bare = ap without_last_segment (path_place url web bare)

abbrev Splits : List ℕ → Option (List ℕ) → List ℕ → Type 0
Splits xs None back = back ≡ xs
Splits xs (Some front) back = xs ≡ front ++ 47 ∷ back

splits_last : (xs : List ℕ) → Splits xs (rsplit_once 47 xs).0 (rsplit_once 47 xs).1
unfolding rsplit_once
splits_last [] = refl
splits_last (b ∷ xs) = grind (arith, splits_last xs)

-- a path with a slash is its folder, the slash and the rest
record Folded (path : List ℕ) : Type 0 where
  back : List ℕ
  is : path ≡ without_last_segment path ++ 47 ∷ back

folded : (path : List ℕ) → 0 < length path → (path ≡ []) ⊎ (get_or path 0 0 ≡ 47) → Folded path
folded path some first =
    let k = cut_path path some first in
    let whole = subst (λ (r : Option (List ℕ) × List ℕ). Splits path r.0 r.1) k.at (splits_last path) in
    record {
      back = k.back;
      is = whole ∙ ap (λ (r : Option (List ℕ) × List ℕ). unwrap_or r.0 [] ++ 47 ∷ k.back) (sym k.at);
    }

-- ---- folders above

-- the text is the root, this path, a slash and more, and the folder ends after the slash
record IsFront (page root : List ℕ) (folder : ℕ) (path : List ℕ) : Type 0 where
  rest : List ℕ
  is : page ≡ root ++ (path ++ 47 ∷ rest)
  len : folder ≡ length root + length path + 1
  list : IsSegmentList SpecialNotFile path

front_start : (url : Parts) (folder : ℕ) → IsWeb url → url.fragment ≡ None → folder ≡ length (folder_text url) + 1 → IsFront (serialize url) (root_text url) folder (without_last_segment url.path)
front_start url folder web bare is =
    let q = query_text url.query in
    let front = without_last_segment url.path in
    let k = folded url.path web.some (rooted (kind_of url) url.path web.list) in
    record {
      rest = k.back ++ q;
      is = page_text url web.authority bare ∙ ap (λ p. root_text url ++ (p ++ q)) k.is ∙ ap (λ p. root_text url ++ p) (append_assoc front (47 ∷ k.back) q);
      len = omega (arith, is, ap length (folder_text-root url web), length-append (root_text url) front);
      list = without_last_valid SpecialNotFile url.path (subst (λ t. IsSegmentList t url.path) web.kind web.list);
    }

middle : (root path rest : List ℕ) (folder : ℕ) → folder ≡ length root + length path + 1 → slice_range (root ++ (path ++ 47 ∷ rest)) (length root) (folder - 1) ≡ path
middle root path rest folder len = grind (arith, common_steps)

nothing_above : without_last_segment [] ≡ []
unfolding rsplit_once
nothing_above = refl

-- one folder above; there is none above the first
front_up : (page root : List ℕ) (folder : ℕ) (path : List ℕ) → IsFront page root folder path
    → IsFront page root (length root + length (without_last_segment (slice_range page (length root) (folder - 1))) + 1) (without_last_segment path)
front_up page root folder path k =
    let slice = ap (λ t. slice_range t (length root) (folder - 1)) k.is ∙ middle root path k.rest folder k.len in
    let len = ap (λ p. length root + length (without_last_segment p) + 1) slice in
    let list = without_last_valid SpecialNotFile path k.list in
    ⊎_elim
    (λ empty.
    let none = ap without_last_segment empty ∙ nothing_above in
    record { rest = k.rest; is = k.is ∙ (λ i. root ++ ((empty ∙ sym none) i ++ 47 ∷ k.rest)); len = len; list = list })
    (λ slash.
    let some = nonempty path slash in
    let f = folded path some (inr slash) in
    record {
      rest = f.back ++ 47 ∷ k.rest;
      is = k.is ∙ ap (λ p. root ++ (p ++ 47 ∷ k.rest)) f.is ∙ ap (λ p. root ++ p) (append_assoc (without_last_segment path) (47 ∷ f.back) (47 ∷ k.rest));
      len = len;
      list = list;
    })
    (rooted SpecialNotFile path k.list)
  where
    nonempty : (path : List ℕ) → get_or path 0 0 ≡ 47 → 0 < length path
    nonempty [] slash = absurd (omega arith)
    nonempty (b ∷ path) slash = omega arith

front_above : (page root : List ℕ) (folder : ℕ) (path : List ℕ) (n : ℕ) → IsFront page root folder path → IsFront page root (folder_above page (length root) folder n) (above n path)
front_above page root folder path zero k = k
front_above page root folder path (suc n) k = grind (arith, front_up, front_above page root folder path n k)

front_text : (page root : List ℕ) (folder : ℕ) (path : List ℕ) → IsFront page root folder path → take folder page ≡ root ++ (path ++ 47 ∷ [])
front_text page root folder path k =
    let front = root ++ (path ++ 47 ∷ []) in
    let len : folder ≡ length front = omega (arith, k.len, length-append root (path ++ 47 ∷ []), length-append path (47 ∷ [])) in
    let whole : page ≡ front ++ k.rest = k.is ∙ simp append_assoc in
    (λ i. take (len i) (whole i)) ∙ take_at front k.rest (length front) refl

-- ---- the base of a text

-- the ends of the root and the folder, as they are read off the text
pub is_base : (text : List ℕ) (root folder start end : ℕ) → IsCanonical text → IsSpelled text start end → root ≡ end + prefix_len (is_other 47) (drop end text)
    → folder ≡ length (without_last_segment (take (prefix_len (is_other 63) text) text)) + 1 → IsBase text root folder
is_base text root folder start end k s root_is folder_is =
    let url = k.url in
    let web = web_url url k.valid k.web in
    let its_root : length (root_text url) ≡ root =
    root_place url web k.bare ∙ (λ i. sym (own_end text start end k s) i + prefix_len (is_other 47) (drop (sym (own_end text start end k s) i) (k.spelled i))) ∙ sym root_is in
    let path = ap (λ t. without_last_segment (take (prefix_len (is_other 63) t) t)) (sym k.spelled) ∙ folder_place url web k.bare in
    let its_folder : length (folder_text url) + 1 ≡ folder = ap (λ f. length f + 1) (sym path) ∙ sym folder_is in
    let front = front_start url folder web k.bare (sym its_folder) in
    let whole = sym k.spelled ∙ front.is in
    let last = without_last_segment url.path in
    record {
      before_path = λ other parses. ap (λ u. length (root_text u)) (one_url text other url parses k.parses) ∙ its_root;
      after_folder = λ other parses. ap (λ u. length (folder_text u) + 1) (one_url text other url parses k.parses) ∙ its_folder;
      ordered = omega (arith, its_root, front.len);
      folder_within = omega (arith, front.len, ap length whole, length-append (root_text url) (last ++ 47 ∷ front.rest), length-append last (47 ∷ front.rest));
    }

front_root : (text : List ℕ) (root folder : ℕ) (k : IsCanonical text) → IsBase text root folder → take root text ≡ root_text k.url
front_root text root folder k b = grind (arith, common_steps, page_text, web_url, query_text)

-- the n-th folder above the page's
own_above : (text : List ℕ) (root folder n : ℕ) (k : IsCanonical text) → IsBase text root folder → take (folder_above text root folder n) text ≡ root_text k.url ++ (above n (without_last_segment k.url.path) ++ 47 ∷ [])
own_above text root folder n k b =
    let url = k.url in
    let web = web_url url k.valid k.web in
    let front = front_start url folder web k.bare (sym (b.after_folder url k.parses)) in
    let above = front_above (serialize url) (root_text url) folder (without_last_segment url.path) n front in
    (λ i. take (folder_above (sym k.spelled i) (sym (b.before_path url k.parses) i) folder n) (sym k.spelled i))
    ∙ front_text (serialize url) (root_text url) _ _ above

own_text : (text : List ℕ) (root folder n : ℕ) (rest : List ℕ) (k : IsCanonical text) → IsBase text root folder → take (folder_above text root folder n) text ++ rest ≡ root_text k.url ++ in_folder k.url n rest
own_text text root folder n rest k b =
    ap (λ f. f ++ rest) (own_above text root folder n k b) ∙ append_assoc (root_text k.url) (above n (without_last_segment k.url.path) ++ 47 ∷ []) rest
    ∙ ap (λ t. root_text k.url ++ t) (append_assoc (above n (without_last_segment k.url.path)) (47 ∷ []) rest)

front_folder : (text : List ℕ) (root folder : ℕ) (k : IsCanonical text) → IsBase text root folder → take folder text ≡ folder_text k.url ++ 47 ∷ []
front_folder text root folder k b =
    own_above text root folder 0 k b ∙ sym (append_assoc (root_text k.url) (without_last_segment k.url.path) (47 ∷ []))
    ∙ ap (λ f. f ++ 47 ∷ []) (sym (folder_text-root k.url (web_url k.url k.valid k.web)))

-- the folder of the URL that the page's text parses to
pub own_folder : (text : List ℕ) (root folder : ℕ) (k : IsCanonical text) → IsBase text root folder → (url : Parts) → parse_url None text ≡ Ok url → take folder text ≡ folder_text url ++ 47 ∷ []
own_folder text root folder k b url parses =
    front_folder text root folder k b ∙ ap (λ u. folder_text u ++ 47 ∷ []) (one_url text k.url url k.parses parses)

-- ---- the targets of links

pub leads_rooted : (text link : List ℕ) (root folder : ℕ) (k : IsCanonical text) → IsBase text root folder → is_rooted link ≡ true → resolve text link ≡ Ok (take root text ++ link)
leads_rooted text link root folder k b rooted =
    ap (λ t. resolve t link) (sym k.spelled) ∙ resolve-rooted k.url link k.valid (page_of text k) rooted
    ∙ ap (λ r. Ok (r ++ link)) (sym (front_root text root folder k b))

pub spelled_root : (text link : List ℕ) (root folder start end : ℕ) (k : IsCanonical text) → IsBase text root folder → IsSpelled text start end → is_rooted link ≡ true → IsSpelled (take root text ++ link) start end
spelled_root text link root folder start end k b s rooted =
    spelled_rooted k.url (take root text) link start end k.valid (page_of text k) rooted (front_root text root folder k b) (own_start text start end k s) (own_end text start end k s)

pub leads_in_folder : (text link : List ℕ) (root folder n : ℕ) (rest : List ℕ) (k : IsCanonical text) → IsBase text root folder → IsInFolder link n rest → resolve text link ≡ Ok (take (folder_above text root folder n) text ++ rest)
leads_in_folder text link root folder n rest k b inside =
    ap (λ t. resolve t link) (sym k.spelled) ∙ resolve-in_folder k.url link n rest k.valid (page_of text k) inside
    ∙ ap (λ t. Ok t) (sym (own_text text root folder n rest k b))

pub spelled_folder : (text link : List ℕ) (root folder n : ℕ) (rest : List ℕ) (start end : ℕ) (k : IsCanonical text) → IsBase text root folder → IsSpelled text start end → IsInFolder link n rest → IsSpelled (take (folder_above text root folder n) text ++ rest) start end
spelled_folder text link root folder n rest start end k b s inside =
    spelled_in_folder k.url link n rest _ start end k.valid (page_of text k) inside (own_text text root folder n rest k b) (own_start text start end k s) (own_end text start end k s)

-- the part before the query of the page
front_path : (text : List ℕ) (k : IsCanonical text) → take (prefix_len (is_other 63) text) text ≡ root_text k.url ++ k.url.path
front_path text k = grind (arith, web_url, path_place, path_text)

own_query : (text link : List ℕ) (k : IsCanonical text) → take (prefix_len (is_other 63) text) text ++ link ≡ root_text k.url ++ (k.url.path ++ link)
own_query text link k = ap (λ f. f ++ link) (front_path text k) ∙ append_assoc (root_text k.url) k.url.path link

pub leads_query : (text link : List ℕ) (k : IsCanonical text) → is_query link ≡ true → resolve text link ≡ Ok (take (prefix_len (is_other 63) text) text ++ link)
leads_query text link k query = grind (arith, resolve-query, page_of, own_query)

pub spelled_at_query : (text link : List ℕ) (start end : ℕ) (k : IsCanonical text) → IsSpelled text start end → is_query link ≡ true → IsSpelled (take (prefix_len (is_other 63) text) text ++ link) start end
spelled_at_query text link start end k s query = grind (arith, spelled_query, page_of, own_query, own_start, own_end)

pub leads_same : (text link : List ℕ) → IsCanonical text → is_same link ≡ true → resolve text link ≡ Ok text
leads_same text link k same = grind (arith, resolve-same, page_of)

pub leads_absolute : (text link : List ℕ) (start end : ℕ) → IsCanonical text → IsSpelled link start end → resolve text link ≡ Ok link
leads_absolute text link start end k s = resolve-spelled k.url text link start end k.parses s

-- two pages with the same folder resolve a link to the same URL if the link passes the test `is_of_folder`
pub leads_within : (text other : List ℕ) (root folder its_root its_folder : ℕ) → IsCanonical text → IsCanonical other → IsBase text root folder → IsBase other its_root its_folder
    → take folder text ≡ take its_folder other → (link : List ℕ) → is_of_folder link ≡ true → resolve text link ≡ resolve other link
leads_within text other root folder its_root its_folder k o b d same link plain =
    let fronts = sym (front_folder text root folder k b) ∙ same ∙ front_folder other its_root its_folder o d in
    let folders = sym (front_of_last (folder_text k.url)) ∙ ap without_last_segment fronts ∙ front_of_last (folder_text o.url) in
    ap (λ t. resolve t link) (sym k.spelled)
    ∙ resolve-of_folder k.url o.url k.valid o.valid (page_of text k) (page_of other o) folders link plain
    ∙ ap (λ t. resolve t link) o.spelled
