-- A text that is escaped piece by piece.
use Rattle.check_report.proofs.Prelude.{common_steps, ◌≡◌, ℕ, ◌<◌, ◌==◌, true, false, List, [], ◌∷◌, ◌++◌, codes, length, take, chars, IsUtf8, IsCharBoundary, refl, sym, ap, ◌∙◌, append-nil, arith, if◌then◌else◌, and_parts, both_ways, ne_eqb, nat_tests, flat_map-append, list_all-append, chars-append, chars-nil, chars_past_char, encodes-chars, flat_map, list_all, prefix_len, shown, shown_char, data_char, escaped, escaped_char, html_char, is_ordinary, property_char, Escape}
use Rattle.std.proofs.lemmas.List.Sums.{prefix_len-le-length, prefix_len_stops}
use Rattle.std.specs.Char.{encode_utf8}
use Rattle.std.specs.Str.{encode_utf8_all}
use Rattle.shown_text.proofs.Pieces.{front_passes}

-- ---- a character with ordinary bytes

abbrev IsOrdinary : ℕ → Type 0
IsOrdinary c = list_all is_ordinary (encode_utf8 c) ≡ true

-- it is none whose bytes are not
apart : (c n : ℕ) → IsOrdinary c → list_all is_ordinary (encode_utf8 n) ≡ false → (c == n) ≡ false
apart c n plain other = ne_eqb c n (λ e. both_ways (list_all is_ordinary (encode_utf8 n)) other (ap (λ k. list_all is_ordinary (encode_utf8 k)) (sym e) ∙ plain))

data_stays : (c : ℕ) → IsOrdinary c → data_char c ≡ shown_char c
unfolding encode_utf8
data_stays c plain = λ i. if apart c 37 plain refl i then codes "%25" else (if apart c 13 plain refl i then codes "%0D" else (if apart c 10 plain refl i then codes "%0A" else shown_char c))

property_stays : (c : ℕ) → IsOrdinary c → property_char c ≡ shown_char c
unfolding encode_utf8
property_stays c plain = λ i. if apart c 58 plain refl i then codes "%3A" else (if apart c 44 plain refl i then codes "%2C" else data_stays c plain i)

html_stays : (c : ℕ) → IsOrdinary c → html_char c ≡ shown_char c
unfolding encode_utf8
html_stays c plain = grind (arith, apart)

-- ---- a run of ordinary bytes

run_stays : (how : Escape) (cs : List ℕ) → list_all is_ordinary (encode_utf8_all cs) ≡ true → flat_map (escaped_char how) cs ≡ flat_map shown_char cs
run_stays how [] plain = refl
run_stays how (c ∷ cs) plain = grind (arith, and_parts, list_all-append, run_stays how cs, data_stays, property_stays, html_stays)

ordinary_run : (how : Escape) (run : List ℕ) → IsUtf8 run → list_all is_ordinary run ≡ true → escaped how run ≡ shown run
ordinary_run how run utf8 plain = run_stays how (chars run) (ap (list_all is_ordinary) (encodes-chars run utf8) ∙ plain)

escaped_both : (how : Escape) (front back : List ℕ) → IsUtf8 front → escaped how (front ++ back) ≡ escaped how front ++ escaped how back
escaped_both how front back utf8 = ap (flat_map (escaped_char how)) (chars-append front back utf8) ∙ flat_map-append (escaped_char how) (chars front) (chars back)

pub run_is_ordinary : (text : List ℕ) (n : ℕ) → n ≡ prefix_len is_ordinary text → list_all is_ordinary (take n text) ≡ true
run_is_ordinary text n is = ap (λ k. list_all is_ordinary (take k text)) is ∙ front_passes is_ordinary text

-- ---- the end of a run

within_ascii : (b : ℕ) → is_ordinary b ≡ false → b < 128
within_ascii b other = grind (arith, nat_tests)

-- a text may be cut after its ordinary bytes
pub run_ends : (text : List ℕ) → IsCharBoundary text (prefix_len is_ordinary text)
run_ends text = grind (arith, prefix_len-le-length, within_ascii, prefix_len_stops)

-- ---- what was put, and what is left

-- if nothing is left, all was put
pub all_put : (how : Escape) (start out all rest : List ℕ) → length rest ≡ 0 → out ++ escaped how rest ≡ start ++ escaped how all → out ≡ start ++ escaped how all
all_put how start out all rest empty so_far = grind (arith, common_steps, chars-nil, append-nil)

-- a run, and then the first character after it
pub run_put : (how : Escape) (start out mid new all text run tail left : List ℕ) →
    out ++ escaped how text ≡ start ++ escaped how all → text ≡ run ++ tail → IsUtf8 run → list_all is_ordinary run ≡ true → mid ≡ out ++ shown run →
    new ++ escaped how left ≡ mid ++ escaped how tail → new ++ escaped how left ≡ start ++ escaped how all
run_put how start out mid new all text run tail left so_far split utf8 plain put first = grind (arith, common_steps, ordinary_run, escaped_both)

pub char_put : (how : Escape) (out new text rest : List ℕ) (c : ℕ) → IsUtf8 text → text ≡ encode_utf8 c ++ rest → new ≡ out ++ escaped_char how c → new ++ escaped how rest ≡ out ++ escaped how text
char_put how out new text rest c utf8 is put = grind (arith, common_steps, chars_past_char)
