-- Properties of a shown text.
use Rattle.shown_text.proofs.Prelude.{common_steps, ◌≡◌, ℕ, ◌+◌, ◌<◌, ◌≤◌, ◌==◌, Bool, true, false, ◌&&◌, ◌||◌, not, List, [], ◌∷◌, ◌++◌, nat_lt, chars, IsAscii, IsUtf8, refl, sym, ap, ◌∙◌, append-nil, arith, and_from, and_parts, cond_both, le-leb, lt-ltb, ltb-true, ne_eqb, not-true, not_from_false, or_left, list_all-append, chars-IsAscii, chars-append, chars-encodes, chars-nil, encodes-chars, IsUtf8-append, IsUtf8-encode, IsUtf8-from_ascii, IsUtf8-nil, scalars-chars, flat_map, list_all, encode_utf8_all, escape_of, is_escaped, is_hidden, is_printed, is_visible, is_visible_or_lf, shown_char, shown_char_in, shown_in, Lines}
use Rattle.std.proofs.lemmas.Bool.Decides.{nat_tests}
use Rattle.std.proofs.lemmas.Fmt.{digits_is_IsNumeral}
use Rattle.std.proofs.lemmas.Str.Ascii.{IsAscii-nil}
use Rattle.std.specs.Char.{digit_value, encode_utf8}
use Rattle.std.specs.Str.Parse.{AllDigits}
use lib.Utf8.{scalar, scalars}
use Rattle.shown_text.specs.declared.escape.Lines.TheVariants as lines
use Rattle.shown_text.proofs.Pieces.{char_stays}

-- ---- escapes

-- the test passes the characters of escapes: the digits, and A to } of ASCII
abbrev pub PassesEscapes : (ℕ → Bool) → Type 0
PassesEscapes p = ((b : ℕ) → 48 ≤ b → b ≤ 57 → p b ≡ true) × ((b : ℕ) → 65 ≤ b → b ≤ 125 → p b ≡ true)

digit_passes : (p : ℕ → Bool) → PassesEscapes p → (d : ℕ) → digit_value d < 16 → p d ≡ true
digit_passes p passes d small = grind arith

digits_pass : (p : ℕ → Bool) → PassesEscapes p → (ds : List ℕ) → AllDigits 16 ds → list_all p ds ≡ true
digits_pass p passes [] all = refl
digits_pass p passes (d ∷ ds) all = and_from (p d) (list_all p ds) (digit_passes p passes d all.0) (digits_pass p passes ds all.1)

-- a hidden character has a small number
hidden_small : (c : ℕ) → is_hidden c ≡ true → c ≤ 8297
hidden_small c hidden = grind (arith, nat_tests)

pub escape_passes : (p : ℕ → Bool) → PassesEscapes p → (c : ℕ) → is_hidden c ≡ true → list_all p (escape_of c) ≡ true
escape_passes p passes c hidden = grind (arith, common_steps, hidden_small, and_from, digits_pass, digits_is_IsNumeral, list_all-append)

-- ---- ASCII

unfoldable pub is_low : ℕ → Bool
is_low b = nat_lt b 128

pub ascii_from : (bs : List ℕ) → list_all is_low bs ≡ true → IsAscii bs
unfolding is_low
ascii_from [] low = IsAscii-nil
ascii_from (b ∷ bs) low = grind (arith, and_parts, ltb-true, ascii_from bs)

pub low_passes : PassesEscapes is_low
unfolding is_low
low_passes = (λ b from to. lt-ltb b 128 (omega arith), λ b from to. lt-ltb b 128 (omega arith))

pub escape_ascii : (c : ℕ) → is_hidden c ≡ true → IsAscii (escape_of c)
escape_ascii c hidden = ascii_from (escape_of c) (escape_passes is_low low_passes c hidden)

between_visible : (b : ℕ) → 32 ≤ b → b < 127 → is_visible b ≡ true
between_visible b low high = grind (arith, nat_tests)

escapes_visible : PassesEscapes is_visible
escapes_visible = (λ b from to. between_visible b (omega arith) (omega arith), λ b from to. between_visible b (omega arith) (omega arith))

between_printed : (b : ℕ) → 32 ≤ b → b < 127 → is_printed b ≡ true
between_printed b low high = grind (arith, nat_tests)

-- ---- characters

-- the test passes the characters of a text, and the text is UTF-8
pub record Passes (p : ℕ → Bool) (text : List ℕ) : Type 0 where
  pub utf8 : IsUtf8 text
  pub all : list_all p (chars text) ≡ true

pub passes_nil : (p : ℕ → Bool) → Passes p []
passes_nil p = record { utf8 = IsUtf8-nil; all = ap (list_all p) chars-nil }

pub passes_both : (p : ℕ → Bool) (front back : List ℕ) → Passes p front → Passes p back → Passes p (front ++ back)
passes_both p front back first second = record {
  utf8 = IsUtf8-append front back first.utf8 second.utf8;
  all =
      ap (list_all p) (chars-append front back first.utf8) ∙ list_all-append p (chars front) (chars back)
      ∙ and_from (list_all p (chars front)) (list_all p (chars back)) first.all second.all;
}

-- ASCII that passes
pub passes_ascii : (p : ℕ → Bool) (text : List ℕ) → IsAscii text → list_all p text ≡ true → Passes p text
passes_ascii p text ascii all = record { utf8 = IsUtf8-from_ascii text ascii; all = ap (list_all p) (chars-IsAscii text ascii) ∙ all }

-- a character that passes
pub passes_char : (p : ℕ → Bool) (c : ℕ) → scalar c ≡ true → p c ≡ true → Passes p (encode_utf8 c)
passes_char p c is_scalar passes = record {
  utf8 = IsUtf8-encode c is_scalar;
  all =
      ap (λ t. list_all p (chars t)) (sym (append-nil (encode_utf8 c)))
      ∙ ap (list_all p) (chars-encodes (c ∷ []) (and_from (scalar c) true is_scalar refl)) ∙ and_from (p c) true passes refl;
}

-- the output for each character of a text passes
pub passes_each : (p : ℕ → Bool) (f : ℕ → List ℕ) → ((c : ℕ) → scalar c ≡ true → Passes p (f c)) → (cs : List ℕ) → scalars cs ≡ true → Passes p (flat_map f cs)
passes_each p f each [] all = passes_nil p
passes_each p f each (c ∷ cs) all =
    let parts = and_parts (scalar c) (scalars cs) all in
    passes_both p (f c) (flat_map f cs) (each c parts.0) (passes_each p f each cs parts.1)

pub passes_text : (p : ℕ → Bool) (f : ℕ → List ℕ) → ((c : ℕ) → scalar c ≡ true → Passes p (f c)) → (text : List ℕ) → IsUtf8 text → Passes p (flat_map f (chars text))
passes_text p f each text utf8 = passes_each p f each (chars text) (scalars-chars text utf8)

-- ---- shown characters

pub escape_visible : (c : ℕ) → is_hidden c ≡ true → Passes is_visible (escape_of c)
escape_visible c hidden = passes_ascii is_visible (escape_of c) (escape_ascii c hidden) (escape_passes is_visible escapes_visible c hidden)

pub char_visible : (c : ℕ) → scalar c ≡ true → Passes is_visible (shown_char_in lines.One c)
char_visible c is_scalar =
    cond_both (is_hidden c) (escape_of c) (encode_utf8 c) (Passes is_visible) (escape_visible c) (λ seen. passes_char is_visible c is_scalar (not_from_false (is_hidden c) seen))

escapes_or_lf : PassesEscapes is_visible_or_lf
escapes_or_lf = grind (arith, or_left, between_visible)

-- a character that is not escaped in a text of several lines
stays_or_lf : (hidden feed : Bool) → (hidden && not feed) ≡ false → (not hidden || feed) ≡ true
stays_or_lf hidden feed stays = grind arith

escaped_hidden : (hidden feed : Bool) → (hidden && not feed) ≡ true → hidden ≡ true
escaped_hidden hidden feed both = (and_parts hidden (not feed) both).0

pub line_char_visible : (c : ℕ) → scalar c ≡ true → Passes is_visible_or_lf (shown_char_in lines.Several c)
line_char_visible c is_scalar =
    cond_both (is_escaped lines.Several c) (escape_of c) (encode_utf8 c) (Passes is_visible_or_lf)
    (λ escaped.
    let hidden = escaped_hidden (is_hidden c) (c == 10) escaped in
    passes_ascii is_visible_or_lf (escape_of c) (escape_ascii c hidden) (escape_passes is_visible_or_lf escapes_or_lf c hidden))
    (λ stays. passes_char is_visible_or_lf c is_scalar (stays_or_lf (is_hidden c) (c == 10) stays))

-- ---- shown texts

pub shown_visible : (text : List ℕ) → IsUtf8 text → Passes is_visible (shown_in lines.One text)
shown_visible = passes_text is_visible (shown_char_in lines.One) char_visible

pub lines_visible : (text : List ℕ) → IsUtf8 text → Passes is_visible_or_lf (shown_in lines.Several text)
lines_visible = passes_text is_visible_or_lf (shown_char_in lines.Several) line_char_visible

pub shown_utf8 : (how : Lines) (text : List ℕ) → IsUtf8 text → IsUtf8 (shown_in how text)
shown_utf8 lines.One text utf8 = (shown_visible text utf8).utf8
shown_utf8 lines.Several text utf8 = (lines_visible text utf8).utf8

-- characters that stay
stay_all : (how : Lines) (p : ℕ → Bool) → ((c : ℕ) → p c ≡ true → is_escaped how c ≡ false) → (cs : List ℕ) → list_all p cs ≡ true → flat_map (shown_char_in how) cs ≡ encode_utf8_all cs
stay_all how p stays [] all = refl
stay_all how p stays (c ∷ cs) all = grind (arith, and_parts, char_stays, stay_all how p stays cs)

pub shown_same : (text : List ℕ) → IsUtf8 text → list_all is_visible (chars text) ≡ true → shown_in lines.One text ≡ text
shown_same text utf8 all = stay_all lines.One is_visible (λ c seen. not-true (is_hidden c) seen) (chars text) all ∙ encodes-chars text utf8

or_lf_stays : (hidden feed : Bool) → (not hidden || feed) ≡ true → (hidden && not feed) ≡ false
or_lf_stays hidden feed all = grind arith

pub lines_same : (text : List ℕ) → IsUtf8 text → list_all is_visible_or_lf (chars text) ≡ true → shown_in lines.Several text ≡ text
lines_same text utf8 all = stay_all lines.Several is_visible_or_lf (λ c seen. or_lf_stays (is_hidden c) (c == 10) seen) (chars text) all ∙ encodes-chars text utf8

-- ---- bytes

-- a test that passes the bytes of UTF-8 that are not ASCII
abbrev pub PassesHigh : (ℕ → Bool) → Type 0
PassesHigh p = (b : ℕ) → 128 ≤ b → p b ≡ true

-- the bytes of a character pass if it passes or is not ASCII
pub encode_passes : (p : ℕ → Bool) → PassesHigh p → (c : ℕ) → (c < 128 → p c ≡ true) → list_all p (encode_utf8 c) ≡ true
unfolding encode_utf8
encode_passes p high c passes = grind arith

pub seen_printed : (c : ℕ) → c < 128 → is_hidden c ≡ false → is_printed c ≡ true
seen_printed c small seen = grind (arith, nat_tests)

-- the output for a character passes if its escape or its bytes pass
pub shown_char_passes : (p : ℕ → Bool) → PassesEscapes p → PassesHigh p → (c : ℕ) → (c < 128 → is_hidden c ≡ false → p c ≡ true) → list_all p (shown_char c) ≡ true
shown_char_passes p escapes high c passes = grind (arith, cond_both, escape_passes, encode_passes)

pub shown_char_printed : (c : ℕ) → list_all is_printed (shown_char c) ≡ true
shown_char_printed c = grind (arith, shown_char_passes, seen_printed, between_printed, and_from, le-leb, not_from_false, ne_eqb)

-- the output for each character passes
pub each_passes : (p : ℕ → Bool) (f : ℕ → List ℕ) → ((c : ℕ) → list_all p (f c) ≡ true) → (cs : List ℕ) → list_all p (flat_map f cs) ≡ true
each_passes p f each [] = refl
each_passes p f each (c ∷ cs) = list_all-append p (f c) (flat_map f cs) ∙ and_from (list_all p (f c)) (list_all p (flat_map f cs)) (each c) (each_passes p f each cs)

pub shown_printed : (text : List ℕ) → list_all is_printed (shown_in lines.One text) ≡ true
shown_printed text = each_passes is_printed shown_char shown_char_printed (chars text)
