-- How the parser reads dot segments at the beginning of a text, and segments that they cancel.
use Rattle.crawl_keys.proofs.Prelude.{common_steps, ◌≡◌, ℕ, zero, suc, ◌+◌, ◌<◌, ◌==◌, true, false, List, [], ◌∷◌, ◌++◌, length, refl, ap, sym, subst, ◌∙◌, All, arith, append_assoc, append-nil, length-append, take_all, Option, unwrap_or, before_first, list_all, position_or_len, prefix_len, and_from, and_parts, eq-eqb, true≢false, nat_tests, All-nil, All-cons, All-weaker, list_all-append, fails_before_first, percent_encode_unchanged, SpecialNotFile, PATH, All-take-prefix_len, IsNot, Passes, list_all_from_All, rsplit_once_at, IsNoSlash, parse_path_more, IsAhead, IsAfterDots, IsInFolder, IsWithin, above, after_ups, has_no_scheme, first_is_slash, is_kept, is_other, is_plain}
use Rattle.url.specs.Input.{split_once}
use Rattle.url.specs.Path.{IsSegment, dot_count, parse_path, push_segment, without_last_segment}
use Rattle.crawl_keys.proofs.HostLinks.{split_after}
use Rattle.crawl_keys.proofs.PlainLemmas.{all_kept, plain_segment}
use Rattle.crawl_keys.proofs.PlainLinks.{parse_ups, rootless_plain, split_ups}

abbrev Split : Type 0
Split = List ℕ × Option (List ℕ)

-- ---- no step, and one step after another

above_more : (n m : ℕ) (path : List ℕ) → above m (above n path) ≡ above (n + m) path
above_more n zero path = ap (λ k. above k path) (let same : n ≡ n + 0 = omega arith in same)
above_more n (suc m) path =
    let next : suc (n + m) ≡ n + suc m = omega arith in
    ap without_last_segment (above_more n m path) ∙ ap (λ k. above k path) next

pub after_then : (text mid rest : List ℕ) (n m : ℕ) → IsAfterDots text n mid → IsAfterDots mid m rest → IsAfterDots text (n + m) rest
after_then text mid rest n m one other = grind (arith, above_more)

-- ---- `../`

keeps_ups : (n : ℕ) (rest : List ℕ) → list_all is_kept rest ≡ true → list_all is_kept (after_ups n rest) ≡ true
keeps_ups zero rest kept = kept
keeps_ups (suc n) rest kept = keeps_ups n rest kept

rootless_ups : (n : ℕ) (rest : List ℕ) → first_is_slash rest ≡ false → first_is_slash (after_ups n rest) ≡ false
rootless_ups n rest rootless = grind arith

pub ups_after : (n : ℕ) (rest : List ℕ) → IsAfterDots (after_ups n rest) n rest
ups_after n rest = grind (arith, split_ups, parse_ups, keeps_ups, rootless_ups)

pub in_folder_ups : (text : List ℕ) (n : ℕ) (rest : List ℕ) → text ≡ after_ups n rest → is_plain 47 rest ≡ true → has_no_scheme text ≡ true → IsInFolder text n rest
in_folder_ups text n rest is plain none = grind (arith, split_ups, parse_ups, keeps_ups, rootless_ups)

-- ---- `./`

push_same : (path : List ℕ) → push_segment SpecialNotFile path (46 ∷ []) false ≡ path
unfolding push_segment dot_count
push_same path = append-nil path

pub same_after : (rest : List ℕ) → IsAfterDots (46 ∷ 47 ∷ rest) 0 rest
unfolding split_once
same_after rest =
    let P = IsNoSlash SpecialNotFile in
    let body = (split_once 63 rest).0 in
    record {
      reads = record {
        path = λ front. parse_path_more SpecialNotFile front (46 ∷ []) 47 body (All-cons P 46 [] refl (All-nil P)) refl ∙ ap (λ p. parse_path SpecialNotFile p body) (push_same front);
        query = refl;
      };
      kept = λ kept. kept;
      rootless = λ rootless. refl;
    }

-- ---- a segment and `../`

push_plain : (path segment : List ℕ) → IsSegment SpecialNotFile segment → push_segment SpecialNotFile path segment false ≡ path ++ 47 ∷ segment
unfolding push_segment
push_plain path segment k = rw k.resolved (ap (λ t. path ++ 47 ∷ t) (percent_encode_unchanged PATH segment k.escaped))

last_off : (path segment : List ℕ) → All (IsNot 47) segment → without_last_segment (path ++ 47 ∷ segment) ≡ path
last_off path segment none = ap (λ (r : Option (List ℕ) × List ℕ). unwrap_or r.0 []) (rsplit_once_at 47 path segment none)

rootless_segment : (segment rest : List ℕ) → is_plain 47 segment ≡ true → 0 < length segment → first_is_slash (segment ++ rest) ≡ false
rootless_segment segment rest plain some = grind (arith, common_steps, rootless_plain)

pub pair_after : (segment rest : List ℕ) → is_plain 47 segment ≡ true → All (IsNot 63) segment → All (IsNot 47) segment → 0 < length segment → IsAfterDots (segment ++ 47 ∷ 46 ∷ 46 ∷ 47 ∷ rest) 0 rest
unfolding split_once
pair_after segment rest plain no_query no_slash some =
    let body = (split_once 63 rest).0 in
    let k = plain_segment segment plain no_query no_slash in
    let split = split_after segment (47 ∷ 46 ∷ 46 ∷ 47 ∷ rest) no_query in
    record {
      reads = record {
        path = λ front.
            ap (λ (r : Split). parse_path SpecialNotFile front r.0) split
            ∙ parse_path_more SpecialNotFile front segment 47 (46 ∷ 46 ∷ 47 ∷ body) k.whole refl
            ∙ ap (λ p. parse_path SpecialNotFile p (46 ∷ 46 ∷ 47 ∷ body)) (push_plain front segment k)
            ∙ parse_ups (front ++ 47 ∷ segment) 1 body
            ∙ ap (λ p. parse_path SpecialNotFile p body) (last_off front segment no_slash);
        query = ap (λ (r : Split). r.1) split;
      };
      kept = λ kept. list_all-append is_kept segment (47 ∷ 46 ∷ 46 ∷ 47 ∷ rest) ∙ and_from _ _ (list_all_from_All is_kept segment (all_kept 47 segment plain)) kept;
      rootless = λ rootless. rootless_segment segment (47 ∷ 46 ∷ 46 ∷ 47 ∷ rest) plain some;
    }

pub no_slash_before : (text : List ℕ) → position_or_len (λ b. b == 47) text < length text → All (IsNot 47) (before_first (λ b. b == 47) text)
no_slash_before text inside = grind (arith, common_steps, true≢false, eq-eqb, fails_before_first)

other_byte : (b : ℕ) → Passes (is_other 63) b → IsNot 63 b
other_byte b passes same = grind (arith, nat_tests)

pub no_query_in : (segment : List ℕ) → prefix_len (is_other 63) segment ≡ length segment → All (IsNot 63) segment
no_query_in segment len =
    let all = subst (All (Passes (is_other 63))) (take_all (prefix_len (is_other 63) segment) segment (omega (arith, len))) (All-take-prefix_len (is_other 63) segment) in
    All-weaker (Passes (is_other 63)) (IsNot 63) other_byte segment all

-- ---- dot segments after segments

pub ahead_then : (text mid rest : List ℕ) → IsAhead text mid → IsAhead mid rest → IsAhead text rest
ahead_then text mid rest one other = record {
  front = one.front ++ other.front;
  is = one.is ∙ ap (λ t. one.front ++ t) other.is ∙ sym (append_assoc one.front other.front rest);
  lifts = λ more following. subst (IsAfterDots text 0) (sym (append_assoc one.front other.front more)) (one.lifts (other.front ++ more) (other.lifts more following));
}

same_first : (segment rest more : List ℕ) → first_is_slash (segment ++ 47 ∷ rest) ≡ first_is_slash (segment ++ 47 ∷ more)
same_first segment rest more = grind (arith, common_steps)

after_segment : (segment rest more : List ℕ) → All (IsNot 63) segment → All (IsNoSlash SpecialNotFile) segment → IsAfterDots rest 0 more → IsAfterDots (segment ++ 47 ∷ rest) 0 (segment ++ 47 ∷ more)
unfolding split_once
after_segment segment rest more no_query whole following = grind (arith, split_after, parse_path_more, and_parts, list_all-append, and_from, same_first)

pub segment_ahead : (segment rest : List ℕ) → is_plain 47 segment ≡ true → All (IsNot 63) segment → All (IsNot 47) segment → IsAhead (segment ++ 47 ∷ rest) rest
segment_ahead segment rest plain no_query no_slash = record {
  front = segment ++ 47 ∷ [];
  is = sym (append_assoc segment (47 ∷ []) rest);
  lifts = λ more following.
      subst (IsAfterDots (segment ++ 47 ∷ rest) 0) (sym (append_assoc segment (47 ∷ []) more))
      (after_segment segment rest more no_query (plain_segment segment plain no_query no_slash).whole following);
}

pub within_from : (text rest following : List ℕ) (ups : ℕ) → IsAhead text rest → IsAfterDots rest ups following → ups ≡ 0 → IsWithin text rest following
within_from text rest following ups ahead dots none = grind (arith, common_steps, length-append)

pub after_both : (text rest path : List ℕ) (ups : ℕ) → IsAfterDots text ups rest → IsAfterDots rest 0 path → IsAfterDots text ups path
after_both text rest path ups one other = grind (arith, after_then)
