-- What a URL parser drops from a text, and the text before its fragment.
use Rattle.document_links.proofs.Prelude.{◌≡◌, ◌∙◌, ◌≤◌, ◌+◌, ◌-◌, ◌++◌, ℕ, Bool, false, not, List, [], ◌∷◌, length, length-reverse, reverse, reverse-append, take, drop, prefix_len, suffix_len, filter, get_or, Some, None, refl, ap, arith, list_any, position_or_len, cond-true, cond-false, false_from_ne_true, or_parts, sym, true, true≢false, IsFirstByte, is_byte, prefix_len_is, begins_path, is_slash, is_c0_control_or_space, clean}
use Rattle.std.proofs.lemmas.Bool.{cond_both, not-true}
use Rattle.std.proofs.Common.{suc}
use Rattle.url.specs.Input.{is_tab_or_new_line, trim_c0_control_and_space, trim_end, trim_start, strip_tabs_and_new_lines}
use Rattle.crawl_keys.specs.Fragments.{is_number_sign}
use Rattle.document_links.specs.Rooted.{begins_visibly}

-- ---- the text before its fragment

pub sign_at : (text : List ℕ) (k : ℕ) → IsFirstByte (is_byte 35) text (Some k) → position_or_len is_number_sign text ≡ k
sign_at text k first =
    prefix_len_is (λ b. not (is_number_sign b)) text k (omega (arith, first.0.high))
    (λ q below. ap not (false_from_ne_true (is_byte 35 (get_or text q 0)) (λ passes. first.0.before q (omega arith) below passes)))
    (λ inside. ap not first.1)

pub no_sign : (text : List ℕ) → IsFirstByte (is_byte 35) text None → position_or_len is_number_sign text ≡ length text
no_sign text none = grind (arith, prefix_len_is, false_from_ne_true)

-- ---- tabs and line breaks

pub none_dropped : (test : ℕ → Bool) (xs : List ℕ) → list_any test xs ≡ false → filter (λ b. not (test b)) xs ≡ xs
none_dropped test [] none = refl
none_dropped test (x ∷ xs) none = grind (arith, or_parts, cond-true, none_dropped test xs)

-- a text without tabs and line breaks stays as it is
pub unbroken : (text : List ℕ) → list_any is_tab_or_new_line text ≡ false → strip_tabs_and_new_lines text ≡ text
unfolding strip_tabs_and_new_lines
unbroken text none = none_dropped is_tab_or_new_line text none

-- without tabs and line breaks, only bytes at the ends are dropped
pub unbroken_clean : (text : List ℕ) → list_any is_tab_or_new_line (trim_c0_control_and_space text) ≡ false → clean text ≡ trim_c0_control_and_space text
unfolding strip_tabs_and_new_lines
unbroken_clean text none = none_dropped is_tab_or_new_line (trim_c0_control_and_space text) none

-- ---- the first byte

-- a byte that fails the test ends the bytes that pass it
short : (test : ℕ → Bool) (xs : List ℕ) (b : ℕ) → test b ≡ false → prefix_len test (xs ++ b ∷ []) ≤ length xs
short test [] b fail = omega (arith, cond-false {A = ℕ} (test b) 1 0 fail)
short test (x ∷ xs) b fail = cond_both (test x) (1 + prefix_len test (xs ++ b ∷ [])) 0 (λ n. n ≤ length (x ∷ xs)) (λ pass. omega (arith, short test xs b fail)) (λ none. omega arith)

-- a link whose first byte is kept begins with that byte
first_kept : (b : ℕ) (rest : List ℕ) → is_c0_control_or_space b ≡ false → begins_path (trim_c0_control_and_space (b ∷ rest)) ≡ is_slash b
unfolding trim_c0_control_and_space
first_kept b rest kept =
    let test : ℕ → Bool = is_c0_control_or_space in
    let start : trim_start test (b ∷ rest) ≡ b ∷ rest = ap (λ n. drop n (b ∷ rest)) (cond-false (test b) (1 + prefix_len test rest) 0 kept) in
    let ends : reverse (b ∷ rest) ≡ reverse rest ++ b ∷ [] = reverse-append (b ∷ []) rest in
    let few : suffix_len test (b ∷ rest) ≤ length rest = omega (arith, short test (reverse rest) b kept, ap (prefix_len test) ends, length-reverse rest) in
    let count : length (b ∷ rest) - suffix_len test (b ∷ rest) ≡ suc (length rest - suffix_len test (b ∷ rest)) = omega (arith, few) in
    ap (λ text. begins_path (trim_end test text)) start ∙ ap (λ n. begins_path (take n (b ∷ rest))) count

pub visible_path : (text : List ℕ) → begins_visibly text ≡ true → begins_path (trim_c0_control_and_space text) ≡ begins_path text
visible_path [] none = absurd (true≢false (sym none))
visible_path (b ∷ rest) visible = first_kept b rest (not-true (is_c0_control_or_space b) visible)
