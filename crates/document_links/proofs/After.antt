-- The point after a text to which bytes are added.
use Rattle.document_links.proofs.Prelude.{◌≡◌, ◌∙◌, ℕ, ◌+◌, ◌-◌, ◌<◌, ◌≤◌, Bool, true, false, ◌||◌, List, [], ◌∷◌, ◌++◌, length, take, drop, get_or, cond, refl, sym, ap, arith, length-drop, length-take, cases_Bool, cond-true, cond-false, or_parts, list_any-append, list_any_none, list_any_at, sum_by-append, sum_by-cons, count_by-le-length, NoneAfter, Nowhere, Passes, is_byte, begins_character, is_lf, last_line, point_of}
use Rattle.std.specs.List.{list_any, count_by}
use Rattle.std.proofs.lemmas.List.{drop-take, take-take, take_more, take-append-drop, get_or-drop, get_or_default}
use Rattle.document_links.specs.declared.points.Point.{Point}

abbrev made : ℕ → ℕ → Point
made line column = record { line = line; column = column }

pub same_point : {a b c d : ℕ} → a ≡ b → c ≡ d → made a c ≡ made b d
same_point {b = b} {c = c} e f = ap (λ x. made x c) e ∙ ap (made b) f

count-append : (p : ℕ → Bool) (xs ys : List ℕ) → count_by p (xs ++ ys) ≡ count_by p xs + count_by p ys
count-append p xs ys = sum_by-append (λ x. cond (p x) 1 0) xs ys

or_false : (x y : Bool) → y ≡ false → (x || y) ≡ x
or_false x y e = grind arith

-- the bytes before a line feed do not count
feed_after : (xs ys : List ℕ) → list_any is_lf ys ≡ true → last_line (xs ++ ys) ≡ last_line ys
feed_after [] ys has = refl
feed_after (x ∷ xs) ys has = grind (arith, cond-true, list_any-append, feed_after xs ys has)

whole_line : (ys : List ℕ) → list_any is_lf ys ≡ false → last_line ys ≡ ys
whole_line [] none = refl
whole_line (y ∷ ys) none = cond-false (list_any is_lf (y ∷ ys)) _ _ none

-- a text without line feeds continues the last line
no_feed_after : (xs ys : List ℕ) → list_any is_lf ys ≡ false → last_line (xs ++ ys) ≡ last_line xs ++ ys
no_feed_after [] ys none = whole_line ys none
no_feed_after (x ∷ xs) ys none = grind (arith, list_any-append, or_false, cases_Bool, cond-true, cond-false, no_feed_after xs ys none)

-- ---- points do not overflow

line_within : (xs : List ℕ) → length (last_line xs) ≤ length xs
line_within [] = omega arith
line_within (x ∷ xs) = grind (arith, cases_Bool, cond-true, cond-false, line_within xs)

-- a column, together with the bytes from there on, is small
pub column_below : (text : List ℕ) (known index : ℕ) → known ≤ index → index ≤ length text →
    count_by begins_character (last_line (take known text)) + length (take (index - known) (drop known text)) ≤ length text
column_below text known index order within = grind (arith, count_by-le-length, line_within, length-take, length-drop)

pub taken_on : (text : List ℕ) (known index : ℕ) → known ≤ index → take known text ++ take (index - known) (drop known text) ≡ take index text
taken_on text known index order =
    let sum : known + (index - known) ≡ index = omega (arith, order) in
    ap (λ xs. take known text ++ xs) (sym (drop-take known (index - known) text) ∙ ap (λ n. drop known (take n text)) sum)
    ∙ ap (λ xs. xs ++ drop known (take index text)) (sym (take-take known index text order))
    ∙ take-append-drop known (take index text)

-- ---- what a search for the last line feed finds

not_byte : (ys : List ℕ) (k : ℕ) (d : ℕ) → k < length ys → (Passes (is_byte 10) ys k → ⊥) → is_lf (get_or ys k d) ≡ false
not_byte ys k d within fails = grind (arith, cases_Bool, get_or_default)

none_after : (ys : List ℕ) (k : ℕ) → NoneAfter (Passes (is_byte 10) ys) 0 (length ys) k → list_any is_lf (drop (k + 1) ys) ≡ false
none_after ys k last = grind (arith, list_any_none, length-drop, get_or-drop, not_byte)

-- the last line begins after the last line feed
line_from : (ys : List ℕ) (k : ℕ) → NoneAfter (Passes (is_byte 10) ys) 0 (length ys) k → Passes (is_byte 10) ys k → last_line ys ≡ drop (k + 1) ys
line_from ys k last is =
    let front : List ℕ = take k ys in
    let b : ℕ = get_or ys k 0 in
    let rest : List ℕ = drop (k + 1) ys in
    let feed : list_any is_lf (b ∷ []) ≡ true = ap (λ q. q || false) is in
    let ends : last_line (take (k + 1) ys) ≡ [] =
    ap last_line (take_more ys k 0 last.high) ∙ feed_after front (b ∷ []) feed ∙ cond-true (list_any is_lf (b ∷ [])) _ _ feed in
    ap last_line (sym (take-append-drop (k + 1) ys)) ∙ no_feed_after (take (k + 1) ys) rest (none_after ys k last) ∙ ap (λ l. l ++ rest) ends

no_count : (ys : List ℕ) → list_any is_lf ys ≡ false → count_by is_lf ys ≡ 0
no_count [] none = refl
no_count (y ∷ ys) none = grind (arith, or_parts, cond-false, sum_by-cons, no_count ys)

-- ---- the point

pub after_feed : (front ys : List ℕ) (k : ℕ) → NoneAfter (Passes (is_byte 10) ys) 0 (length ys) k → Passes (is_byte 10) ys k →
    made ((count_by is_lf front + 1) + count_by is_lf ys) (count_by begins_character (drop (k + 1) ys) + 1) ≡ point_of (front ++ ys)
after_feed front ys k last is = grind (arith, list_any_at, feed_after, line_from, same_point, count-append)

pub after_none : (front ys : List ℕ) → Nowhere (Passes (is_byte 10) ys) 0 (length ys) →
    made (count_by is_lf front + 1) ((count_by begins_character (last_line front) + 1) + count_by begins_character ys) ≡ point_of (front ++ ys)
after_none front ys nowhere = grind (arith, no_count, same_point, no_feed_after, list_any_none, not_byte, sum_by-append)
