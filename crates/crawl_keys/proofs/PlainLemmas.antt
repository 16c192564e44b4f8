-- The segments of a path, and a query, in a text that the parser of URLs leaves unchanged.
use Rattle.crawl_keys.proofs.Prelude.{◌≡◌, ◌≢◌, ℕ, suc, ◌+◌, ◌-◌, ◌<◌, ◌==◌, Bool, true, not, ◌&&◌, List, [], ◌∷◌, ◌++◌, length, take, drop, get_or, take-append-drop, refl, ap, sym, subst, ◌∙◌, ⊎_elim, All, Some, IfSome, arith, bit_and, nat_eq, Option, is_some, unwrap_or, agree_below, agree_below_at, and_from, and_parts, cases_eq, cond-false, cond-true, cond_both, eq-eqb, eqb-true, ne_eqb, true≢false, nat_tests, All-nil, All-cons, All-head, All-tail, All-weaker, list_all-append, after_first, before_first, list_all, position_or_len, prefix_len, passes_at_first, split_at_first, IsKept, PATH, SPECIAL_QUERY, SpecialNotFile, All_from_list_all, IsNot, Passes, StopsAt, StopsAt-drop-prefix_len, list_all_from_All, IsNoSlash, kept_from_passes, Follow, is_kept, is_other, is_plain, may_begin, may_follow}
use Rattle.url.specs.Input.{split_once, when}
use Rattle.url.specs.Path.{dot_len, dot_count, IsSegment, IsSegmentList, join_segments}

-- ---- bytes

kept_below : (b : ℕ) → is_kept b ≡ true → b < 128
kept_below b kept = grind (arith, nat_tests)

pub path_byte : (b : ℕ) → is_kept b ≡ true → b ≢ 63 → IsKept PATH b
path_byte b kept other =
    kept_from_passes (λ x. is_kept x && not (x == 63)) PATH refl b (kept_below b kept) (and_from _ _ kept (ap not (ne_eqb b 63 other)))

pub query_byte : (b : ℕ) → is_kept b ≡ true → IsKept SPECIAL_QUERY b
query_byte b kept = kept_from_passes is_kept SPECIAL_QUERY refl b (kept_below b kept) kept

no_slash_byte : (b : ℕ) → is_kept b ≡ true → b ≢ 47 → IsNoSlash SpecialNotFile b
no_slash_byte b kept other = grind (arith, nat_tests)

pub visible_byte : (b : ℕ) → Passes is_kept b → 32 < b
visible_byte b kept = grind (arith, nat_tests)

pub no_sign_byte : (b : ℕ) → Passes is_kept b → IsNot 35 b
no_sign_byte b kept same = grind (arith, nat_tests)

following_slash : (last b : ℕ) → may_follow last b ≡ true → last ≡ 47 → may_begin b ≡ true
following_slash last b test slash = sym (cond-true _ _ _ (eq-eqb last 47 slash)) ∙ test

follows_kept : (last b : ℕ) → may_follow last b ≡ true → is_kept b ≡ true
follows_kept last b test = grind (arith, cond_both, and_parts)

pub all_kept : (last : ℕ) (text : List ℕ) → is_plain last text ≡ true → All (Passes is_kept) text
all_kept last [] plain = All-nil (Passes is_kept)
all_kept last (b ∷ text) plain =
    let parts = and_parts _ _ plain in
    let later = cond_both {A = Bool} (b == 63) (list_all is_kept text) (is_plain b text) (λ (v : Bool). v ≡ true → All (Passes is_kept) text)
    (λ _ kept. All_from_list_all is_kept text kept) (λ _ more. all_kept b text more) parts.1 in
    All-cons (Passes is_kept) b text (follows_kept last b parts.0) later

-- a text is plain after a byte if its first byte may follow that byte and the rest is plain after the first byte
pub plain_then : (last b : ℕ) (text : List ℕ) → may_follow last b ≡ true → is_plain b text ≡ true → is_plain last (b ∷ text) ≡ true
plain_then last b text first plain = grind (arith, and_from, cond_both, list_all_from_All, all_kept)

-- if a text is plain and its first byte is not `?`, the rest is plain after that byte
plain_after : (last b : ℕ) (text : List ℕ) → is_plain last (b ∷ text) ≡ true → b ≢ 63 → is_plain b text ≡ true
plain_after last b text plain other = grind arith

-- ---- bytes after bytes

plain_following : (last b : ℕ) (text : List ℕ) → may_follow last b ≡ true → Follow (b ∷ text) 0 (length text) → is_plain last (b ∷ text) ≡ true
plain_following last b [] first each = plain_then last b [] first refl
plain_following last b (c ∷ text) first each =
    plain_then last b (c ∷ text) first (plain_following b c text (each 0 (omega arith) (omega arith)) (λ k from to. later b c text k (each (suc k) (omega arith) (omega arith))))
  where
    later : (b c : ℕ) (text : List ℕ) (k : ℕ) → may_follow (get_or (b ∷ c ∷ text) (suc k) 0) (get_or (b ∷ c ∷ text) (suc k + 1) 0) ≡ true → may_follow (get_or (c ∷ text) k 0) (get_or (c ∷ text) (k + 1) 0) ≡ true
    later b c text k each =
        let next : suc k + 1 ≡ suc (k + 1) = omega arith in
        subst (λ j. may_follow (get_or (c ∷ text) k 0) (get_or (b ∷ c ∷ text) j 0) ≡ true) next each

-- a text is plain if each byte may follow the one before it
pub plain_from : (last : ℕ) (text : List ℕ) → 0 < length text → may_follow last (get_or text 0 0) ≡ true → Follow text 0 (length text - 1) → is_plain last text ≡ true
plain_from last [] some first each = absurd (omega arith)
plain_from last (b ∷ text) some first each = plain_following last b text first (λ k from to. each k from (omega arith))

-- ---- segments

dots_none : (segment : List ℕ) → dot_len segment ≡ 0 → dot_count segment ≡ 0
unfolding dot_count
dots_none segment none = rw none

begins_segment : (b : ℕ) (segment : List ℕ) → may_begin b ≡ true → dot_count (b ∷ segment) ≡ 0
begins_segment b segment begins = grind (arith, dots_none)

dots_none_of : (segment : List ℕ) → is_plain 47 segment ≡ true → dot_count segment ≡ 0
dots_none_of [] plain = dots_none [] refl
dots_none_of (b ∷ segment) plain = begins_segment b segment (following_slash 47 b (and_parts _ _ plain).0 refl)

whole_bytes : (segment : List ℕ) → All (Passes is_kept) segment → All (IsNot 47) segment → All (IsNoSlash SpecialNotFile) segment
whole_bytes [] kept none = All-nil (IsNoSlash SpecialNotFile)
whole_bytes (b ∷ segment) kept none = grind (arith, no_slash_byte, whole_bytes segment)

path_bytes : (segment : List ℕ) → All (Passes is_kept) segment → All (IsNot 63) segment → All (IsKept PATH) segment
path_bytes [] kept none = All-nil (IsKept PATH)
path_bytes (b ∷ segment) kept none = grind (arith, path_byte, path_bytes segment)

-- a text that is plain and has neither a slash nor a query is a segment
pub plain_segment : (segment : List ℕ) → is_plain 47 segment ≡ true → All (IsNot 63) segment → All (IsNot 47) segment → IsSegment SpecialNotFile segment
plain_segment segment plain no_query no_slash = grind (arith, path_bytes, all_kept, whole_bytes, dots_none_of)

-- the text continues the segment that this byte is in or begins, and whole segments follow
pub record IsRun (last : ℕ) (text : List ℕ) : Type 0 where
  pub first : List ℕ
  pub others : List (List ℕ)
  pub is : text ≡ first ++ join_segments others
  pub escaped : All (IsKept PATH) first
  pub whole : All (IsNoSlash SpecialNotFile) first
  pub begins : last ≡ 47 → dot_count first ≡ 0
  pub each : All (IsSegment SpecialNotFile) others

-- the text after a slash begins with a segment
pub run_segment : (text : List ℕ) (k : IsRun 47 text) → IsSegment SpecialNotFile k.first
run_segment text k = record { escaped = k.escaped; whole = k.whole; resolved = k.begins refl }

pub runs : (last : ℕ) (text : List ℕ) → is_plain last text ≡ true → All (IsNot 63) text → IsRun last text
runs last [] plain none = record {
  first = [];
  others = [];
  is = refl;
  escaped = All-nil (IsKept PATH);
  whole = All-nil (IsNoSlash SpecialNotFile);
  begins = λ _. dots_none [] refl;
  each = All-nil (IsSegment SpecialNotFile);
}
runs last (b ∷ text) plain none =
    let parts = and_parts _ _ plain in
    let later = runs b text (plain_after last b text plain (All-head (IsNot 63) b text none)) (All-tail (IsNot 63) b text none) in
    ⊎_elim (λ slash. after_slash last b text slash later)
    (λ other. in_segment last b text (follows_kept last b parts.0) (All-head (IsNot 63) b text none) other (following_slash last b parts.0) later)
    (cases_eq b 47)
  where
    after_slash : (last b : ℕ) (text : List ℕ) → b ≡ 47 → IsRun b text → IsRun last (b ∷ text)
    after_slash last b text slash later = record {
      first = [];
      others = later.first ∷ later.others;
      is = (λ i. slash i ∷ later.is i);
      escaped = All-nil (IsKept PATH);
      whole = All-nil (IsNoSlash SpecialNotFile);
      begins = λ _. dots_none [] refl;
      each = All-cons (IsSegment SpecialNotFile) later.first later.others (record { escaped = later.escaped; whole = later.whole; resolved = later.begins slash }) later.each;
    }

    in_segment : (last b : ℕ) (text : List ℕ) → is_kept b ≡ true → b ≢ 63 → b ≢ 47 → (last ≡ 47 → may_begin b ≡ true) → IsRun b text → IsRun last (b ∷ text)
    in_segment last b text kept no_mark no_slash begins later = record {
      first = b ∷ later.first;
      others = later.others;
      is = ap (λ l. b ∷ l) later.is;
      escaped = All-cons (IsKept PATH) b later.first (path_byte b kept no_mark) later.escaped;
      whole = All-cons (IsNoSlash SpecialNotFile) b later.first (no_slash_byte b kept no_slash) later.whole;
      begins = λ slash. begins_segment b later.first (begins slash);
      each = later.each;
    }

-- a text that is plain, begins with a slash and has no query is a list of segments
pub rooted_path : (last b : ℕ) (text : List ℕ) → b ≡ 47 → is_plain last (b ∷ text) ≡ true → All (IsNot 63) (b ∷ text) → IsSegmentList SpecialNotFile (b ∷ text)
rooted_path last b text slash plain none =
    let run = runs b text (plain_after last b text plain (All-head (IsNot 63) b text none)) (All-tail (IsNot 63) b text none) in
    record {
      segments = run.first ∷ run.others;
      joined = (λ i. slash i ∷ run.is i);
      each = All-cons (IsSegment SpecialNotFile) run.first run.others (record { escaped = run.escaped; whole = run.whole; resolved = run.begins slash }) run.each;
    }

-- ---- the query

-- the `?` and the query, if there is a query
abbrev pub query_text : Option (List ℕ) → List ℕ
query_text query = when (is_some query) (63 ∷ []) ++ unwrap_or query []

-- the part before the first `?`, and the query after it
pub record IsSplit (last : ℕ) (text path : List ℕ) (query : Option (List ℕ)) : Type 0 where
  pub plain : is_plain last path ≡ true
  pub none : All (IsNot 63) path
  pub kept : IfSome query (All (IsKept SPECIAL_QUERY))
  pub whole : text ≡ path ++ query_text query

abbrev Split : Type 0
Split = List ℕ × Option (List ℕ)

pub splits : (last : ℕ) (text : List ℕ) → is_plain last text ≡ true → IsSplit last text (split_once 63 text).0 (split_once 63 text).1
unfolding split_once
splits last [] plain = record { plain = refl; none = All-nil (IsNot 63); kept = tt; whole = refl }
splits last (b ∷ text) plain =
    let parts = and_parts _ _ plain in
    cond_both {A = Split} (b == 63) ([], Some text) (b ∷ (split_once 63 text).0, (split_once 63 text).1) (λ (r : Split). IsSplit last (b ∷ text) r.0 r.1)
    (λ mark. at_mark last b text (eqb-true b 63 mark) (sym (cond-true (b == 63) (list_all is_kept text) (is_plain b text) mark) ∙ parts.1))
    (λ other. before_mark last b text (split_once 63 text).0 (split_once 63 text).1 parts.0 (λ same. true≢false (sym (eq-eqb b 63 same) ∙ other))
    (splits b text (sym (cond-false (b == 63) (list_all is_kept text) (is_plain b text) other) ∙ parts.1)))
  where
    at_mark : (last b : ℕ) (text : List ℕ) → b ≡ 63 → list_all is_kept text ≡ true → IsSplit last (b ∷ text) [] (Some text)
    at_mark last b text mark kept = record {
      plain = refl;
      none = All-nil (IsNot 63);
      kept = All-weaker (Passes is_kept) (IsKept SPECIAL_QUERY) query_byte text (All_from_list_all is_kept text kept);
      whole = ap (λ x. x ∷ text) mark;
    }

    before_mark : (last b : ℕ) (text path : List ℕ) (query : Option (List ℕ)) → may_follow last b ≡ true → b ≢ 63 → IsSplit b text path query → IsSplit last (b ∷ text) (b ∷ path) query
    before_mark last b text path query test other later = record {
      plain = plain_then last b path test later.plain;
      none = All-cons (IsNot 63) b path other later.none;
      kept = later.kept;
      whole = ap (λ l. b ∷ l) later.whole;
    }

plain_mark : (last : ℕ) (query : List ℕ) → 0 < length query → StopsAt (is_other 63) query → list_all is_kept query ≡ true → is_plain last query ≡ true
plain_mark last query some stops kept = grind arith

plain_parts : (last : ℕ) (path query : List ℕ) → is_plain last path ≡ true → 0 < length query → StopsAt (is_other 63) query → list_all is_kept query ≡ true → is_plain last (path ++ query) ≡ true
plain_parts last [] query plain some stops kept = plain_mark last query some stops kept
plain_parts last (b ∷ path) query plain some stops kept = grind (arith, and_parts, and_from, cond_both, list_all-append, cond-true, cond-false, plain_parts b path query)

-- a text is plain if its path is plain and the bytes of its query are kept
pub plain_query : (last : ℕ) (text path query : List ℕ) (n : ℕ) → n ≡ prefix_len (is_other 63) text → path ≡ take n text → query ≡ drop n text
    → is_plain last path ≡ true → 0 < length query → list_all is_kept query ≡ true → is_plain last text ≡ true
plain_query last text path query n place front back plain some kept =
    let stops = subst (StopsAt (is_other 63)) (ap (λ k. drop k text) (sym place) ∙ sym back) (StopsAt-drop-prefix_len (is_other 63) text) in
    subst (λ t. is_plain last t ≡ true) ((λ i. front i ++ back i) ∙ take-append-drop n text) (plain_parts last path query plain some stops kept)

-- ---- a text that is cut at a byte

pub cut_at : (s : ℕ) (text : List ℕ) → position_or_len (λ b. b == s) text < length text → text ≡ before_first (λ b. b == s) text ++ s ∷ after_first (λ b. b == s) text
cut_at s text inside =
    let here = eqb-true (get_or text (position_or_len (λ b. b == s) text) 0) s (passes_at_first (λ b. b == s) text 0 inside) in
    split_at_first (λ b. b == s) text 0 inside ∙ ap (λ b. before_first (λ c. c == s) text ++ b ∷ after_first (λ c. c == s) text) here

-- ---- the table of bytes

abbrev pub has_flag : List ℕ → ℕ → ℕ → Bool
has_flag table flag b = not (nat_eq (bit_and (get_or table b 0) flag) 0)

pub from_table : (table : List ℕ) (flag : ℕ) (test : ℕ → Bool) (b : ℕ) → b < 256 → agree_below (has_flag table flag) test 256 ≡ true → has_flag table flag b ≡ test b
from_table table flag test b below all = agree_below_at (has_flag table flag) test 256 b all below
