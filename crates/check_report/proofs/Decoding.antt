-- Texts in which escapes are decoded.
use Rattle.check_report.proofs.Prelude.{◌≡◌, ℕ, ◌-◌, ◌*◌, ◌<◌, ◌≤◌, false, List, [], ◌∷◌, ◌++◌, chars, drop, length, slice_get, zero, suc, refl, sym, ap, ◌∙◌, arith, append_assoc, IsUtf8, Option, None, Some, chars-nil, chars_past_char, encodes-chars, if◌then◌else◌, cond-false, cond-true, cases_Bool, inl, inr}
use Rattle.std.proofs.lemmas.Str.{IsUtf8-from_is_utf8, is_utf8-from_IsUtf8}
use Rattle.std.specs.Char.{encode_utf8}
use Rattle.std.specs.Str.{encode_utf8_all, is_utf8}
use Rattle.check_report.specs.Names.{at_percent, escaped_more, is_readable, readable_in, readable_only, unescaped, unescaped_first, unescaped_from}

not_utf8 : (bytes : List ℕ) → ¬ (IsUtf8 bytes) → is_utf8 bytes ≡ false
not_utf8 bytes other = elim (cases_Bool (is_utf8 bytes)) [ inl is ↦ absurd (other (IsUtf8-from_is_utf8 bytes is)) | inr not ↦ not ]

-- ---- readable characters

pub readable_text : (bytes : List ℕ) → IsUtf8 bytes → readable_in bytes ≡ readable_only (chars bytes)
readable_text bytes utf8 = cond-true (is_utf8 bytes) _ _ (is_utf8-from_IsUtf8 bytes utf8)

pub readable_other : (bytes : List ℕ) → ¬ (IsUtf8 bytes) → readable_in bytes ≡ None
readable_other bytes other = cond-false (is_utf8 bytes) _ _ (not_utf8 bytes other)

-- ---- a text of one character

pub no_char : (text : List ℕ) → length text ≡ 0 → readable_only (chars text) ≡ None
no_char [] none = ap readable_only chars-nil
no_char (b ∷ bs) none = absurd (omega arith)

pub one_char : (text rest : List ℕ) (c : ℕ) → IsUtf8 text → text ≡ encode_utf8 c ++ rest → length rest ≡ 0 → readable_only (chars text) ≡ (if is_readable c then Some c else None)
one_char text [] c utf8 is none = ap readable_only (chars_past_char text [] c utf8 is ∙ ap (λ cs. c ∷ cs) chars-nil)
one_char text (b ∷ bs) c utf8 is none = absurd (omega arith)

pub readable_one : (text rest : List ℕ) (c : ℕ) (found : Option ℕ) → IsUtf8 text → text ≡ encode_utf8 c ++ rest → length rest ≡ 0 → found ≡ (if is_readable c then Some c else None) → found ≡ readable_only (chars text)
readable_one text rest c found utf8 is none same = same ∙ sym (one_char text rest c utf8 is none)

two_chars : (text : List ℕ) (c : ℕ) (cs : List ℕ) → (cs ≡ [] → ⊥) → readable_only (c ∷ cs) ≡ None
two_chars text c [] more = absurd (more refl)
two_chars text c (d ∷ cs) more = refl

pub more_chars : (text rest : List ℕ) (c : ℕ) → IsUtf8 text → text ≡ encode_utf8 c ++ rest → IsUtf8 rest → 0 < length rest → readable_only (chars text) ≡ None
more_chars text rest c utf8 is rest_utf8 some =
    ap readable_only (chars_past_char text rest c utf8 is)
    ∙ two_chars text c (chars rest) (λ none. let empty : rest ≡ [] = sym (encodes-chars rest rest_utf8) ∙ ap encode_utf8_all none in absurd (omega (arith, some, ap length empty)))

-- ---- a text from its start

skip_first : (skipped : ℕ) (text : List ℕ) → unescaped_from skipped text ≡ unescaped (drop skipped text)
skip_first zero [] = refl
skip_first (suc skipped) [] = refl
skip_first zero (b ∷ bs) = refl
skip_first (suc skipped) (b ∷ bs) = skip_first skipped bs

pub byte_put : (old new text : List ℕ) (first : ℕ) → slice_get text 0 ≡ Some first → at_percent text ≡ None → new ≡ old ++ first ∷ [] → new ++ unescaped (drop 1 text) ≡ old ++ unescaped text
byte_put old new [] first some none put = cc
byte_put old new (b ∷ bs) first some none put =
    let same : b ≡ first = cc in
    let rest : unescaped (b ∷ bs) ≡ b ∷ unescaped bs = λ i. unescaped_first b (none i) ++ unescaped_from (escaped_more (none i)) bs in
    ap (λ t. t ++ unescaped bs) put ∙ append_assoc old (first ∷ []) (unescaped bs) ∙ ap (λ c. old ++ c ∷ unescaped bs) (sym same) ∙ ap (λ t. old ++ t) (sym rest)

pub escapes_put : (old new text : List ℕ) (c count : ℕ) → at_percent text ≡ Some (c, count) → 1 ≤ count → new ≡ old ++ encode_utf8 c → new ++ unescaped (drop (3 * count) text) ≡ old ++ unescaped text
escapes_put old new [] c count found some put = cc
escapes_put old new (b ∷ bs) c count found some put =
    let whole : unescaped (b ∷ bs) ≡ encode_utf8 c ++ unescaped_from (3 * count - 1) bs = λ i. unescaped_first b (found i) ++ unescaped_from (escaped_more (found i)) bs in
    let past : drop (3 * count) (b ∷ bs) ≡ drop (3 * count - 1) bs = ap (λ k. drop k (b ∷ bs)) (one_more (3 * count) (omega arith)) in
    ap (λ t. new ++ unescaped t) past ∙ ap (λ t. new ++ t) (sym (skip_first (3 * count - 1) bs)) ∙ ap (λ t. t ++ unescaped_from (3 * count - 1) bs) put
    ∙ append_assoc old (encode_utf8 c) (unescaped_from (3 * count - 1) bs) ∙ ap (λ t. old ++ t) (sym whole)
  where
    one_more : (n : ℕ) → 1 ≤ n → n ≡ suc (n - 1)
    one_more n some = omega arith
