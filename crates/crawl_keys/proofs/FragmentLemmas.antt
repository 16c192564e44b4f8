-- A link without its fragment has the link's target.
use Rattle.crawl_keys.proofs.Prelude.{common_steps, nat_tests, ◌≡◌, ◌⊎◌, ℕ, suc, ◌+◌, ◌<◌, ◌-◌, ◌==◌, ◌&&◌, Bool, true, false, not, List, [], ◌∷◌, ◌++◌, length, get_or, take, drop, refl, ap, sym, subst, ◌∙◌, ⊎_elim, All, Some, None, Ok, Err, arith, one-add, Option, filter, is_some, if◌then◌else◌, suffix_len, position_or_len, before_first, after_first, take-append-add, take-nil, and_left, and_from, and_parts, or_parts, not-true, eq-eqb, eqb-true, ltb-true, true≢false, cases_lt, cases_Bool, cond-true, cond-false, lt-leb, or_left, or_right, or_cases, All-filter, All-tail, filter-append, list_any-append, fails_before_first, passes_at_first, split_at_first, Parts, All-take_from_reads, IsNot, is_empty_nonempty, split_around, split_once_at, split_once_none, NotHttp, is_of_folder, before_fragment, ends_visibly, is_number_sign}
use Rattle.std.proofs.lemmas.List.{append_assoc, drop_all, get_or_past, length-append, take_all}
use Rattle.url.specs.Input.{is_c0_control_or_space, is_empty, is_tab_or_new_line, split_once, strip_tabs_and_new_lines, trim_c0_control_and_space, trim_end, trim_start}
use Rattle.url.specs.Parser.{Parsed, and_then, before_tail, parse_by_scheme, parse_parts, parse_url, parse_without_scheme, with_tail}
use Rattle.crawl_keys.specs.CanonicalText.{canonical, is_web, resolve, resolve_from, text_of, text_of_parse}
use Rattle.crawl_keys.proofs.CanonicalLemmas.{web_kind}
use Rattle.crawl_keys.proofs.FolderLemmas.{suffix_len-stops}

-- ---- the parser's first steps

-- a text at whose end the parser trims nothing
record EndsVisibly (l : List ℕ) : Type 0 where
  front : List ℕ
  last : ℕ
  is : l ≡ front ++ last ∷ []
  above : 32 < last

visible_end : (l : List ℕ) → ends_visibly l ≡ true → EndsVisibly l
visible_end l visible = grind (arith, common_steps, ltb-true, get_or_past, cases_lt, split_around, drop_all)

-- the beginning of such a text after trimming, whatever the rest is
record Kept (trims : ℕ → Bool) (P : ℕ → Type 0) (front : List ℕ) (c : ℕ) : Type 0 where
  kept : List ℕ
  is : (rest : List ℕ) → trim_start trims (front ++ c ∷ rest) ≡ kept ++ c ∷ rest
  all : All P (kept ++ c ∷ [])

kept_front : (trims : ℕ → Bool) (P : ℕ → Type 0) (front : List ℕ) (c : ℕ) → trims c ≡ false → All P (front ++ c ∷ []) → Kept trims P front c
kept_front trims P [] c stops all = record { kept = []; is = λ rest. rw stops refl; all = all }
kept_front trims P (x ∷ front) c stops all =
    let later = kept_front trims P front c stops (All-tail P x (front ++ c ∷ []) all) in
    ⊎_elim
    (λ passes. record { kept = later.kept; is = λ rest. ap (λ n. drop n (x ∷ (front ++ c ∷ rest))) (cond-true _ _ _ passes ∙ one-add _) ∙ later.is rest; all = later.all })
    (λ fails. record { kept = x ∷ front; is = λ rest. rw fails refl; all = all })
    (cases_Bool (trims x))

trim_end-stops : (front : List ℕ) (b : ℕ) (rest : List ℕ) → is_c0_control_or_space b ≡ false → trim_end is_c0_control_or_space (front ++ b ∷ rest) ≡ front ++ b ∷ take (length rest - suffix_len is_c0_control_or_space (front ++ b ∷ rest)) rest
trim_end-stops front b rest stops =
    let all = front ++ b ∷ rest in
    let end = suffix_len-stops is_c0_control_or_space front b rest stops in
    let len = length-append front (b ∷ rest) in
    let more : length all - suffix_len is_c0_control_or_space all ≡ length front + suc (length rest - suffix_len is_c0_control_or_space all) = omega (arith, end, len) in
    ap (λ n. take n all) more ∙ take-append-add front (b ∷ rest) (suc (length rest - suffix_len is_c0_control_or_space all))

-- the parts into which the parser splits the text and its front
record IsCut (text front : List ℕ) : Type 0 where
  body : List ℕ
  fragment : List ℕ
  whole : split_once 35 (strip_tabs_and_new_lines (trim_c0_control_and_space text)) ≡ (body, Some fragment)
  alone : split_once 35 (strip_tabs_and_new_lines (trim_c0_control_and_space front)) ≡ (body, None)
  some : 0 < length body

cut_parts : (front : List ℕ) (c : ℕ) (fragment : List ℕ) → 32 < c → All (IsNot 35) (front ++ c ∷ []) → IsCut (front ++ c ∷ 35 ∷ fragment) (front ++ c ∷ [])
unfolding trim_c0_control_and_space strip_tabs_and_new_lines
cut_parts front c fragment above plain =
    let trims = is_c0_control_or_space in
    let stays = λ (b : ℕ). not (is_tab_or_new_line b) in
    let stops : trims c ≡ false = lt-leb c 32 above in
    let here : stays c ≡ true = grind (arith, nat_tests) in
    let start = kept_front trims (IsNot 35) front c stops plain in
    let visible = start.kept ++ c ∷ [] in
    let alone = ap (trim_end trims) (start.is []) ∙ trim_end-stops start.kept c [] stops ∙ ap (λ l. start.kept ++ c ∷ l) (take-nil _) in
    let regroup = sym (append_assoc start.kept (c ∷ []) (35 ∷ fragment)) in
    let whole = ap (trim_end trims) (start.is (35 ∷ fragment) ∙ regroup) ∙ trim_end-stops visible 35 fragment refl in
    let back = take (length fragment - suffix_len trims (visible ++ 35 ∷ fragment)) fragment in
    let none = All-filter stays (IsNot 35) visible start.all in
    let split = filter-append stays start.kept (c ∷ []) ∙ ap (λ l. filter stays start.kept ++ l) (cond-true _ _ _ here) in
    record {
      body = filter stays visible;
      fragment = filter stays back;
      whole = ap (split_once 35) (ap (filter stays) whole ∙ filter-append stays visible (35 ∷ back)) ∙ split_once_at 35 (filter stays visible) (filter stays back) none;
      alone = ap (split_once 35) (ap (filter stays) alone) ∙ split_once_none 35 (filter stays visible) none;
      some = omega (arith, ap length split, length-append (filter stays start.kept) (c ∷ []));
    }

-- ---- the parser's last step

-- the URL with a tail: its text has only the query of the tail
text_of-web : (url : Parts) (query : Option (List ℕ)) (fragment : Option (List ℕ)) → is_web url ≡ true → text_of (with_tail (before_tail url query fragment) query fragment) ≡ text_of (with_tail url query None)
unfolding text_of
text_of-web url query fragment web = grind (arith, web_kind, cond-false, and_left)

text_of-other : (url : Parts) (query : Option (List ℕ)) (fragment : Option (List ℕ)) → is_web url ≡ false → text_of (with_tail (before_tail url query fragment) query fragment) ≡ Err NotHttp
unfolding text_of
text_of-other url query fragment other = grind arith

text_of-tail : (url : Parts) (query : Option (List ℕ)) (one other : Option (List ℕ)) → text_of (with_tail (before_tail url query one) query one) ≡ text_of (with_tail (before_tail url query other) query other)
text_of-tail url query one other =
    ⊎_elim
    (λ web. text_of-web url query one web ∙ sym (text_of-web url query other web))
    (λ not_web. text_of-other url query one not_web ∙ sym (text_of-other url query other not_web))
    (cases_Bool (is_web url))

text_of_parse-tail : (made : Parsed Parts) (query : Option (List ℕ)) (one other : Option (List ℕ)) → text_of_parse (and_then made (λ url. Ok (with_tail (before_tail url query one) query one))) ≡ text_of_parse (and_then made (λ url. Ok (with_tail (before_tail url query other) query other)))
text_of_parse-tail made query one other = grind (arith, text_of-tail)

text_of-fragment : (url : Parts) (query : Option (List ℕ)) (one other : Option (List ℕ)) → text_of (with_tail url query one) ≡ text_of (with_tail url query other)
unfolding text_of
text_of-fragment url query one other = refl

pub parse_parts-fragment : (scheme : List ℕ) (base : Option Parts) (body : List ℕ) (query : Option (List ℕ)) (one other : Option (List ℕ)) → text_of_parse (parse_parts scheme base body query one) ≡ text_of_parse (parse_parts scheme base body query other)
unfolding parse_parts
parse_parts-fragment scheme base body query one other = grind (arith, text_of_parse-tail, text_of-fragment)

-- the text is more than a fragment
abbrev IsMore : List ℕ → Option (List ℕ) → Type 0
IsMore body query = (is_empty body && not (is_some query)) ≡ false

parse_without_scheme-fragment : (base : Option Parts) (body : List ℕ) (query : Option (List ℕ)) (one other : Option (List ℕ)) → IsMore body query → text_of_parse (parse_without_scheme base body query one) ≡ text_of_parse (parse_without_scheme base body query other)
parse_without_scheme-fragment base body query one other more = grind (arith, parse_parts-fragment)

parse_by_scheme-fragment : (split : Option (List ℕ × List ℕ)) (base : Option Parts) (body : List ℕ) (query : Option (List ℕ)) (one other : Option (List ℕ)) → IsMore body query → text_of_parse (parse_by_scheme split base body query one) ≡ text_of_parse (parse_by_scheme split base body query other)
parse_by_scheme-fragment split base body query one other more = grind (arith, parse_without_scheme-fragment, parse_parts-fragment)

more_than_fragment : (text : List ℕ) → 0 < length text → IsMore (split_once 63 text).0 (split_once 63 text).1
unfolding split_once
more_than_fragment [] some = absurd (omega arith)
more_than_fragment (x ∷ text) some =
    elim (x == 63) as (λ v. let r : List ℕ × Option (List ℕ) = if v then ([], Some text) else (x ∷ (split_once 63 text).0, (split_once 63 text).1) in IsMore r.0 r.1)
    [ true ↦ refl | false ↦ and_left _ _ (is_empty_nonempty (x ∷ (split_once 63 text).0) (omega arith)) ]

parse_url-cut : (base : Option Parts) (text front : List ℕ) → IsCut text front → text_of_parse (parse_url base front) ≡ text_of_parse (parse_url base text)
unfolding parse_url
parse_url-cut base text front cut = grind (arith, parse_by_scheme-fragment, more_than_fragment)

-- ---- the whole

-- the text has a fragment, and the byte before that is not trimmed
record IsLong (text : List ℕ) : Type 0 where
  front : List ℕ
  last : ℕ
  fragment : List ℕ
  cut : before_fragment text ≡ front ++ last ∷ []
  whole : text ≡ front ++ last ∷ 35 ∷ fragment
  above : 32 < last
  plain : All (IsNot 35) (front ++ last ∷ [])

long_text : (text : List ℕ) → ends_visibly (before_first is_number_sign text) ≡ true → position_or_len is_number_sign text < length text → IsLong text
long_text text visible inside =
    let place = position_or_len is_number_sign text in
    let k = visible_end (before_first is_number_sign text) visible in
    let sign : get_or text place 0 ≡ 35 = eqb-true _ 35 (passes_at_first is_number_sign text 0 inside) in
    let plain = All-take_from_reads (IsNot 35) text place (omega (arith, inside)) (λ n below same. true≢false (sym (eq-eqb _ 35 same) ∙ fails_before_first is_number_sign text n 0 below)) in
    record {
      front = k.front;
      last = k.last;
      fragment = after_first is_number_sign text;
      cut = cond-true _ _ _ visible ∙ k.is;
      whole = split_at_first is_number_sign text 0 inside ∙ ap (λ s. before_first is_number_sign text ++ s ∷ after_first is_number_sign text) sign ∙ ap (λ l. l ++ 35 ∷ after_first is_number_sign text) k.is ∙ append_assoc k.front (k.last ∷ []) _;
      above = k.above;
      plain = subst (All (IsNot 35)) k.is plain;
    }

-- the text stays whole, or it is cut
long_or_whole : (text : List ℕ) → (before_fragment text ≡ text) ⊎ IsLong text
long_or_whole text = grind (arith, long_text, cond-true, take_all, cases_lt, cond-false, cases_Bool)

resolve_from-cut : (base : Parsed Parts) (text front : List ℕ) → IsCut text front → resolve_from base front ≡ resolve_from base text
resolve_from-cut base text front cut = grind (arith, parse_url-cut)

pub resolve-before_fragment : (text base : List ℕ) → resolve base (before_fragment text) ≡ resolve base text
resolve-before_fragment text base = grind (arith, resolve_from-cut, cut_parts, long_or_whole)

-- and so does its canonical text
pub canonical-before_fragment : (text : List ℕ) → canonical (before_fragment text) ≡ canonical text
canonical-before_fragment text = grind (arith, parse_url-cut, cut_parts, long_or_whole)

front_of_folder : (front rest : List ℕ) → 0 < length front → is_of_folder (front ++ rest) ≡ true → is_of_folder front ≡ true
front_of_folder front rest some folder = grind (arith, common_steps, and_parts, and_from, or_left, or_right, or_parts, list_any-append, not-true, or_cases)

pub is_of_folder-before_fragment : (text : List ℕ) → is_of_folder text ≡ true → is_of_folder (before_fragment text) ≡ true
is_of_folder-before_fragment text folder =
    ⊎_elim
    (λ same. ap is_of_folder same ∙ folder)
    (λ k.
    let len = length-append k.front (k.last ∷ []) in
    let whole = k.whole ∙ sym (append_assoc k.front (k.last ∷ []) (35 ∷ k.fragment)) in
    ap is_of_folder k.cut ∙ front_of_folder (k.front ++ k.last ∷ []) (35 ∷ k.fragment) (omega (arith, len)) (sym (ap is_of_folder whole) ∙ folder))
    (long_or_whole text)
