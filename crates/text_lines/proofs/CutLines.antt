-- Bytes cut into a first line and the rest, and the text of a line.
use Rattle.text_lines.proofs.Prelude.{◌≡◌, ℕ, ◌+◌, ◌<◌, ◌≤◌, ◌-◌, ◌==◌, Bool, true, false, cond, List, [], ◌∷◌, ◌++◌, length, take, drop, get_or, Option, Some, None, Ok, Err, codes, refl, sym, ap, subst, ◌∙◌, arith, length-append, ltb-true, ltb-false, le-ltb, lt-ltb, is_utf8-from_IsUtf8, IsUtf8-from_is_utf8, IsUtf8-append, IsUtf8-from_ascii, take_all, take_more, take-append-drop, drop_more, get_or-drop, length-drop}
use Rattle.std.proofs.lemmas.Grind.{common_steps}
use Rattle.std.specs.List.{position, position_or_len, slice_split}
use Rattle.std.specs.Str.{is_utf8, IsUtf8}
use Rattle.std.specs.Str.Lines.{lines, lines_of_parts, strip_carriage_return}
use Rattle.std.specs.Bool.{if◌then◌else◌}
use Rattle.std.proofs.lemmas.Bool.{eqb-true, false_from_ne_true}
use Rattle.std.proofs.lemmas.Str.Ascii.{IsAscii-from_all}
use Rattle.std.proofs.lemmas.List.Elements.{All-nil, All-push}
use Rattle.std.proofs.lemmas.List.Splits.{slice_split_first, slice_split_none, length-slice_split}
use Rattle.std.proofs.lemmas.List.Sums.{fails_before_first, passes_at_first, position_or_len_is}
use Rattle.memchr.specs.Find.{IsFirstByte}
use Rattle.text_lines.specs.declared.lines.LineError.TheVariants.{NotText}
use Rattle.crawl_limits.specs.Limits.{line_limit}
use Rattle.text_lines.specs.Lines.{text_of}
use Rattle.text_lines.specs.FirstLine.{after_line}

abbrev pub is_lf : ℕ → Bool
is_lf b = b == 10

found : (b : Bool) (n i : ℕ) → cond b (Some n) None ≡ Some i → (b ≡ true) × (n ≡ i)
found b n i e = grind arith

pub nonempty : (n : ℕ) → (n == 0) ≡ false → 0 < n
nonempty n e = grind arith

-- a part that is not the last one loses the CR at its end
before_others : (part : List ℕ) (parts : List (List ℕ)) → 0 < length parts → lines_of_parts (part ∷ parts) ≡ strip_carriage_return part ∷ lines_of_parts parts
before_others part parts h = grind arith

-- the index of the first byte that passes a test
pub first_byte-position : (test : ℕ → Bool) (bytes : List ℕ) (r : Option ℕ) → IsFirstByte test bytes r → r ≡ position test bytes
first_byte-position test bytes None nowhere =
    let none : position_or_len test bytes ≡ length bytes =
    position_or_len_is test bytes (length bytes) 0 (omega arith) (λ k below. false_from_ne_true (test (get_or bytes k 0)) (nowhere k (omega arith) below)) (λ inside. absurd (omega (arith, inside))) in
    rw (none, le-ltb (length bytes) (length bytes) (omega arith)) refl
first_byte-position test bytes (Some end) first =
    let high = first.0.high in
    let there : position_or_len test bytes ≡ end =
    position_or_len_is test bytes end 0 (omega (arith, high)) (λ k below. false_from_ne_true (test (get_or bytes k 0)) (first.0.before k (omega arith) below)) (λ inside. first.1) in
    rw (there, lt-ltb end (length bytes) high) refl

-- the first line ends at the first LF
pub lines_at : (bytes : List ℕ) (end : ℕ) → position is_lf bytes ≡ Some end → lines bytes ≡ strip_carriage_return (take end bytes) ∷ lines (drop (end + 1) bytes)
lines_at bytes end e = grind (arith, found, slice_split_first, ltb-true, before_others, length-slice_split)

-- bytes without an LF are one line
pub lines_only : (bytes : List ℕ) → position is_lf bytes ≡ None → 0 < length bytes → lines bytes ≡ bytes ∷ []
lines_only bytes e some = grind (arith, ltb-false, slice_split_none, fails_before_first)

-- the checks of a line's text

pub text_of-utf8 : (number : ℕ) (line : List ℕ) → length line ≤ line_limit → IsUtf8 line → text_of number line ≡ Ok line
text_of-utf8 number line short utf8 = rw (le-ltb line_limit (length line) short, is_utf8-from_IsUtf8 line utf8) refl

pub text_of-other : (number : ℕ) (line : List ℕ) → length line ≤ line_limit → ¬ (IsUtf8 line) → text_of number line ≡ Err (NotText number)
text_of-other number line short other = rw (le-ltb line_limit (length line) short, false_from_ne_true (is_utf8 line) (λ e. other (IsUtf8-from_is_utf8 line e))) refl

-- ---- lines that are UTF-8

ascii_one : (b : ℕ) → b < 128 → IsUtf8 (b ∷ [])
ascii_one b low = IsUtf8-from_ascii (b ∷ []) (IsAscii-from_all (b ∷ []) (All-push (λ (x : ℕ). x < 128) [] b (All-nil (λ (x : ℕ). x < 128)) low))

last_back : (line : List ℕ) → 0 < length line → line ≡ take (length line - 1) line ++ get_or line (length line - 1) 0 ∷ []
last_back line some = grind (arith, take_all, take_more)

-- a line is UTF-8 if it is so without the CR at its end
cr_back : (line : List ℕ) (b : Bool) → (get_or line (length line - 1) 0 == 13) ≡ b → IsUtf8 (if b then take (length line - 1) line else line) → IsUtf8 line
cr_back line false at utf8 = utf8
cr_back [] true at utf8 = absurd (cc)
cr_back (x ∷ xs) true at utf8 =
    let line : List ℕ = x ∷ xs in
    let last : get_or line (length line - 1) 0 ≡ 13 = eqb-true _ 13 at in
    subst IsUtf8 (sym (last_back line (omega arith))) (IsUtf8-append (take (length line - 1) line) (get_or line (length line - 1) 0 ∷ []) utf8 (ascii_one _ (omega (arith, last))))

-- the byte at the first LF's index is an LF
pub lf_at : (bytes : List ℕ) (end : ℕ) → position is_lf bytes ≡ Some end → (end < length bytes) × (get_or bytes end 0 ≡ 10)
lf_at bytes end e = grind (arith, found, ltb-true, eqb-true, passes_at_first)

-- bytes are UTF-8 if their first line and the rest are UTF-8
pub whole_utf8 : (bytes : List ℕ) (end : ℕ) → position is_lf bytes ≡ Some end → IsUtf8 (strip_carriage_return (take end bytes)) → IsUtf8 (drop (end + 1) bytes) → IsUtf8 bytes
whole_utf8 bytes end e line more =
    let at = lf_at bytes end e in
    let front : take (end + 1) bytes ≡ take end bytes ++ 10 ∷ [] = take_more bytes end 0 at.0 ∙ ap (λ b. take end bytes ++ b ∷ []) at.1 in
    let own : IsUtf8 (take end bytes) = cr_back (take end bytes) _ refl line in
    subst IsUtf8 (take-append-drop (end + 1) bytes)
    (IsUtf8-append (take (end + 1) bytes) (drop (end + 1) bytes)
    (subst IsUtf8 (sym front) (IsUtf8-append (take end bytes) (10 ∷ []) own (ascii_one 10 (omega arith)))) more)

pub no_bytes : (bytes : List ℕ) → (length bytes == 0) ≡ true → IsUtf8 bytes
no_bytes bytes e = grind (arith, common_steps, eqb-true)

-- ---- the text after the first line

-- a prefix of the first line does not change the text after that line
pub after_page : (text : List ℕ) → after_line text ≡ after_line (codes "page " ++ text)
after_page text = grind arith

-- ---- bytes that are cut after a line

strips : List (List ℕ) → List (List ℕ) → List (List ℕ)
strips [] more = more
strips (part ∷ parts) more = strip_carriage_return part ∷ strips parts more

strips-lines : (parts more : List (List ℕ)) → 0 < length more → lines_of_parts (parts ++ more) ≡ strips parts (lines_of_parts more)
unfolding strips
strips-lines [] more some = refl
strips-lines (part ∷ parts) more some = grind (arith, before_others, length-append, strips-lines parts more some)

strips-append : (parts more : List (List ℕ)) → strips parts more ≡ strips parts [] ++ more
unfolding strips
strips-append [] more = refl
strips-append (part ∷ parts) more = ap (λ ls. strip_carriage_return part ∷ ls) (strips-append parts more)

split_there : (front back : List ℕ) → slice_split is_lf (front ++ 10 ∷ back) ≡ slice_split is_lf front ++ slice_split is_lf back
split_there [] back = refl
split_there (b ∷ front) back = grind (arith, common_steps, length-slice_split, split_there front)

pub lines_cut : (front back : List ℕ) → lines (front ++ 10 ∷ back) ≡ lines (front ++ 10 ∷ []) ++ lines back
lines_cut front back = grind (arith, strips, split_there, strips-lines, length-slice_split, strips-append)

pub cut_after : (bytes : List ℕ) (at : ℕ) → at < length bytes → get_or bytes at 0 ≡ 10 → lines bytes ≡ lines (take (at + 1) bytes) ++ lines (drop (at + 1) bytes)
cut_after bytes at below is =
    let back = drop (at + 1) bytes in
    let whole : bytes ≡ take at bytes ++ 10 ∷ back = sym (take-append-drop at bytes) ∙ ap (λ l. take at bytes ++ l) (drop_more bytes at 0 below ∙ ap (λ b. b ∷ back) is) in
    let first : take (at + 1) bytes ≡ take at bytes ++ 10 ∷ [] = take_more bytes at 0 below ∙ ap (λ b. take at bytes ++ b ∷ []) is in
    ap lines whole ∙ lines_cut (take at bytes) back ∙ ap (λ l. lines l ++ lines back) (sym first)

-- the first LF from an index on
pub newline_from : (bytes : List ℕ) (from k : ℕ) → position is_lf (drop from bytes) ≡ Some k → (from + k < length bytes) × (get_or bytes (from + k) 0 ≡ 10)
newline_from bytes from k e = grind (arith, found, ltb-true, eqb-true, passes_at_first, length-drop, get_or-drop)
