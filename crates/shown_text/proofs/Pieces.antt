-- A text that is shown piece by piece.
use Rattle.shown_text.proofs.Prelude.{common_steps, ◌≡◌, ℕ, ◌+◌, ◌/◌, ◌%◌, ◌≤◌, Bool, true, false, List, [], ◌∷◌, ◌++◌, length, take, nat_lt, chars, IsUtf8, IsCharBoundary, refl, ap, ◌∙◌, append-nil, arith, if◌then◌else◌, and_from, and_parts, cond_both, ltb-false, ltb-true, list_all-append, prefix_len-le-length, prefix_len_stops, take_while-cons, chars-append, chars-nil, chars_past_char, encodes-chars, flat_map, list_all, prefix_len, take_while, encode_utf8_all, escape_of, is_escaped, is_hidden, is_plain, shown_char_in, shown_in, Lines}
use Rattle.std.proofs.lemmas.List.Concat.{flat_map-append}
use Rattle.std.specs.Char.{encode_utf8}
use Rattle.shown_text.specs.declared.escape.Lines.TheVariants as lines

-- ---- characters that are not hidden

visible : (c : ℕ) → 32 ≤ c → (127 ≤ c → c ≤ 159 → ⊥) → (8232 ≤ c → c ≤ 8238 → ⊥) → (8294 ≤ c → c ≤ 8297 → ⊥) → is_hidden c ≡ false
visible c past no_control no_separator no_isolate = grind arith

first_plain : (b : ℕ) (rest : List ℕ) → list_all is_plain (b ∷ rest) ≡ true → (32 ≤ b) × (b ≡ 127 → ⊥) × (b ≡ 194 → ⊥) × (b ≡ 226 → ⊥)
first_plain b rest plain = grind (arith, and_parts)

-- a character whose bytes are plain is not hidden
pub plain_bytes : (c : ℕ) → list_all is_plain (encode_utf8 c) ≡ true → is_hidden c ≡ false
unfolding encode_utf8
plain_bytes c =
    cond_both (nat_lt c 128) _ _ (λ t. list_all is_plain t ≡ true → is_hidden c ≡ false)
    (λ one plain.
    let small = ltb-true c 128 one in
    let is = first_plain c [] plain in
    let past = is.0 in
    let no_delete = is.1 in
    visible c past (λ low high. no_delete (omega arith)) (λ low high. omega arith) (λ low high. omega arith))
    (λ more. cond_both (nat_lt c 2048) _ _ (λ t. list_all is_plain t ≡ true → is_hidden c ≡ false)
    (λ two plain.
    let above = ltb-false c 128 more in
    let small = ltb-true c 2048 two in
    let no_c1 = (first_plain (192 + c / 64) ((128 + c % 64) ∷ []) plain).2 in
    visible c (omega arith) (λ low high. no_c1 (omega arith)) (λ low high. omega arith) (λ low high. omega arith))
    (λ more. cond_both (nat_lt c 65536) _ _ (λ t. list_all is_plain t ≡ true → is_hidden c ≡ false)
    (λ three plain.
    let above = ltb-false c 2048 more in
    let no_punctuation = (first_plain (224 + c / 4096) ((128 + c / 64 % 64) ∷ (128 + c % 64) ∷ []) plain).3 in
    visible c (omega arith) (λ low high. omega arith) (λ low high. no_punctuation (omega arith)) (λ low high. no_punctuation (omega arith)))
    (λ more plain.
    let above = ltb-false c 65536 more in
    visible c (omega arith) (λ low high. omega arith) (λ low high. omega arith) (λ low high. omega arith))))

not_escaped : (how : Lines) (c : ℕ) → is_hidden c ≡ false → is_escaped how c ≡ false
not_escaped how c seen = grind arith

pub char_stays : (how : Lines) (c : ℕ) → is_escaped how c ≡ false → shown_char_in how c ≡ encode_utf8 c
char_stays how c stays = ap (λ b. if b then escape_of c else encode_utf8 c) stays

-- ---- a run of plain bytes

run_stays : (how : Lines) (cs : List ℕ) → list_all is_plain (encode_utf8_all cs) ≡ true → flat_map (shown_char_in how) cs ≡ encode_utf8_all cs
run_stays how [] plain = refl
run_stays how (c ∷ cs) plain = grind (arith, and_parts, list_all-append, char_stays, not_escaped, plain_bytes, run_stays how cs)

pub plain_run : (how : Lines) (run : List ℕ) → IsUtf8 run → list_all is_plain run ≡ true → shown_in how run ≡ run
plain_run how run utf8 plain = grind (arith, encodes-chars, run_stays)

pub shown_both : (how : Lines) (front back : List ℕ) → IsUtf8 front → shown_in how (front ++ back) ≡ shown_in how front ++ shown_in how back
shown_both how front back utf8 = ap (flat_map (shown_char_in how)) (chars-append front back utf8) ∙ flat_map-append (shown_char_in how) (chars front) (chars back)

pub front_passes : (p : ℕ → Bool) (text : List ℕ) → list_all p (take_while p text) ≡ true
front_passes p [] = refl
front_passes p (b ∷ bs) =
    ap (list_all p) (take_while-cons p b bs)
    ∙ cond_both (p b) (b ∷ take_while p bs) [] (λ t. list_all p t ≡ true) (λ passes. and_from (p b) (list_all p (take_while p bs)) passes (front_passes p bs)) (λ fails. refl)

pub run_is_plain : (text : List ℕ) (n : ℕ) → n ≡ prefix_len is_plain text → list_all is_plain (take n text) ≡ true
run_is_plain text n is = ap (λ k. list_all is_plain (take k text)) is ∙ front_passes is_plain text

-- ---- the end of a run

-- a text may be cut after its plain bytes
pub run_ends : (text : List ℕ) → IsCharBoundary text (prefix_len is_plain text)
run_ends text = grind (arith, prefix_len-le-length, prefix_len_stops)

-- ---- the bytes that were written, and the rest

-- if nothing is left, all was put
pub all_put : (how : Lines) (start out all rest : List ℕ) → length rest ≡ 0 → out ++ shown_in how rest ≡ start ++ shown_in how all → out ≡ start ++ shown_in how all
all_put how start out all rest empty so_far = grind (arith, common_steps, chars-nil, append-nil)

-- a run, and then the first character after it
pub run_put : (how : Lines) (start out mid new all text run tail left : List ℕ) →
    out ++ shown_in how text ≡ start ++ shown_in how all → text ≡ run ++ tail → IsUtf8 run → list_all is_plain run ≡ true → mid ≡ out ++ run →
    new ++ shown_in how left ≡ mid ++ shown_in how tail → new ++ shown_in how left ≡ start ++ shown_in how all
run_put how start out mid new all text run tail left so_far split utf8 plain put first = grind (arith, common_steps, plain_run, shown_both)

pub char_put : (how : Lines) (out new text rest : List ℕ) (c : ℕ) → IsUtf8 text → text ≡ encode_utf8 c ++ rest → new ≡ out ++ shown_char_in how c → new ++ shown_in how rest ≡ out ++ shown_in how text
char_put how out new text rest c utf8 is put = grind (arith, common_steps, chars_past_char)
