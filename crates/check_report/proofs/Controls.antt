-- No control character is left in an escaped text.
use Rattle.check_report.proofs.Prelude.{◌≡◌, ℕ, ◌+◌, ◌/◌, ◌%◌, ◌==◌, true, false, ◌&&◌, not, List, [], ◌∷◌, ◌++◌, codes, nat_lt, chars, IsUtf8, refl, arith, and_parts, both_ways, cond_both, eqb-true, false_from_ne_true, leb-true, ltb-true, ne_eqb, flat_map, list_all, escape_of, is_hidden, is_printed, is_visible, shown_char, data_char, escaped, escaped_char, has_no_c1, is_c1, Escape}
use Rattle.std.specs.Char.{encode_utf8}
use Rattle.shown_text.proofs.Visible.{Passes, ascii_from, char_visible, each_passes, escape_passes, is_low, low_passes, passes_ascii, passes_text, shown_char_printed}

-- ---- what holds of each escape, and of what is shown of a character, holds of an escaped character

pub record Holds (P : List ℕ → Type 0) : Type 0 where
  pub percent : P (codes "%25")
  pub return : P (codes "%0D")
  pub feed : P (codes "%0A")
  pub colon : P (codes "%3A")
  pub comma : P (codes "%2C")
  pub ampersand : P (codes "&amp;")
  pub less : P (codes "&lt;")
  pub greater : P (codes "&gt;")
  pub quote : P (codes "&#34;")
  pub apostrophe : P (codes "&#39;")

data_holds : (P : List ℕ → Type 0) → Holds P → (c : ℕ) → P (shown_char c) → P (data_char c)
data_holds P all c other = grind (arith, cond_both)

pub char_holds : (P : List ℕ → Type 0) → Holds P → (how : Escape) (c : ℕ) → P (shown_char c) → P (escaped_char how c)
char_holds P all how c other = grind (arith, cond_both, data_holds)

-- ---- bytes

pub escaped_printed : (how : Escape) (text : List ℕ) → list_all is_printed (escaped how text) ≡ true
escaped_printed how text = grind (arith, each_passes, char_holds, shown_char_printed)

-- ---- characters

ascii_visible : (text : List ℕ) → list_all is_low text ≡ true → list_all is_visible text ≡ true → Passes is_visible text
ascii_visible text low seen = passes_ascii is_visible text (ascii_from text low) seen

visible_each : Holds (Passes is_visible)
unfolding is_low
visible_each = record {
  percent = ascii_visible (codes "%25") refl refl;
  return = ascii_visible (codes "%0D") refl refl;
  feed = ascii_visible (codes "%0A") refl refl;
  colon = ascii_visible (codes "%3A") refl refl;
  comma = ascii_visible (codes "%2C") refl refl;
  ampersand = ascii_visible (codes "&amp;") refl refl;
  less = ascii_visible (codes "&lt;") refl refl;
  greater = ascii_visible (codes "&gt;") refl refl;
  quote = ascii_visible (codes "&#34;") refl refl;
  apostrophe = ascii_visible (codes "&#39;") refl refl;
}

pub escaped_visible : (how : Escape) (text : List ℕ) → IsUtf8 text → list_all is_visible (chars (escaped how text)) ≡ true
escaped_visible how text utf8 =
    (passes_text is_visible (escaped_char how) (λ c is_scalar. char_holds (Passes is_visible) visible_each how c (char_visible c is_scalar)) text utf8).all

-- ---- C1 controls

other_first : (b : ℕ) (rest : List ℕ) → (b ≡ 194 → ⊥) → has_no_c1 rest ≡ true → has_no_c1 (b ∷ rest) ≡ true
other_first b rest other none = grind (arith, ne_eqb)

-- a text before one without C1 controls makes none
abbrev pub Apart : List ℕ → Type 0
Apart text = (rest : List ℕ) → has_no_c1 rest ≡ true → has_no_c1 (text ++ rest) ≡ true

ascii_apart : (text : List ℕ) → list_all is_low text ≡ true → Apart text
unfolding is_low
ascii_apart [] low = λ rest none. none
ascii_apart (b ∷ bs) low = grind (arith, and_parts, is_low, ltb-true, other_first, ascii_apart bs)

-- the two bytes of a character that is not hidden are no C1 control
two_apart : (c : ℕ) → is_hidden c ≡ false → ((192 + c / 64 == 194) && is_c1 (128 + c % 64)) ≡ false
two_apart c seen = grind (arith, false_from_ne_true, and_parts, eqb-true, leb-true, both_ways)

next_first : (n : ℕ) (rest : List ℕ) → has_no_c1 rest ≡ true → has_no_c1 ((128 + n % 64) ∷ rest) ≡ true
next_first n rest none = other_first (128 + n % 64) rest (λ e. omega arith) none

encode_apart : (c : ℕ) → is_hidden c ≡ false → Apart (encode_utf8 c)
unfolding encode_utf8
encode_apart c seen = λ rest none.
    cond_both (nat_lt c 128) _ _ (λ t. has_no_c1 (t ++ rest) ≡ true)
    (λ one. let small = ltb-true c 128 one in other_first c rest (λ e. omega (arith, small, e)) none)
    (λ more. cond_both (nat_lt c 2048) _ _ (λ t. has_no_c1 (t ++ rest) ≡ true)
    (λ two. λ i. not (two_apart c seen i) && next_first c rest none i)
    (λ more. cond_both (nat_lt c 65536) _ _ (λ t. has_no_c1 (t ++ rest) ≡ true)
    (λ three.
    other_first (224 + c / 4096) ((128 + c / 64 % 64) ∷ (128 + c % 64) ∷ rest) (λ e. omega (arith, e))
    (next_first (c / 64) ((128 + c % 64) ∷ rest) (next_first c rest none)))
    (λ four.
    other_first (240 + c / 262144) ((128 + c / 4096 % 64) ∷ (128 + c / 64 % 64) ∷ (128 + c % 64) ∷ rest) (λ e. omega (arith, e))
    (next_first (c / 4096) ((128 + c / 64 % 64) ∷ (128 + c % 64) ∷ rest) (next_first (c / 64) ((128 + c % 64) ∷ rest) (next_first c rest none))))))

pub shown_apart : (c : ℕ) → Apart (shown_char c)
shown_apart c = cond_both (is_hidden c) (escape_of c) (encode_utf8 c) Apart (λ hidden. ascii_apart (escape_of c) (escape_passes is_low low_passes c hidden)) (encode_apart c)

pub apart_each : Holds Apart
unfolding is_low
apart_each = grind (arith, ascii_apart)

pub none_each : (f : ℕ → List ℕ) → ((c : ℕ) → Apart (f c)) → (cs : List ℕ) → has_no_c1 (flat_map f cs) ≡ true
none_each f each [] = refl
none_each f each (c ∷ cs) = each c (flat_map f cs) (none_each f each cs)
