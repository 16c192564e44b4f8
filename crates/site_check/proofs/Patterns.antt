-- Patterns: a text is searched for the pieces between their `*`, each at its first place.
use Rattle.site_check.proofs.Prelude.{common_steps, ◌≡◌, ◌∙◌, ℕ, zero, suc, ◌+◌, ◌<◌, ◌≤◌, Bool, true, false, ◌||◌, cond, List, [], ◌∷◌, ◌++◌, length, drop, take, get_or, refl, sym, ap, inl, inr, arith, cases_Bool, cond-true, cond-false, take-append-drop, bytes_eq, bytes_eq-Decides, list_any, any_end, begins, fits, is_last, is_star}
use Rattle.std.proofs.Common.{◌≢◌, ◌-◌, ◌&&◌, eqb, length-drop, ne_eqb}
use Rattle.std.proofs.Math.Bool.{or-false}
use Rattle.std.proofs.Math.Seq.{drop-append-add, drop-append_seam, drop-nil, take-append_seam}
use Rattle.std.proofs.lemmas.Bool.{or_parts}

-- ---- what has no star

abbrev pub IsPlain : List ℕ → Type 0
IsPlain text = (i : ℕ) → i < length text → get_or text i 0 ≢ 42

more_plain : (b : ℕ) (text : List ℕ) → IsPlain (b ∷ text) → IsPlain text
more_plain b text plain = λ i below. plain (suc i) (omega (arith, below))

first_plain : (b : ℕ) (text : List ℕ) → IsPlain (b ∷ text) → eqb b 42 ≡ false
first_plain b text plain = ne_eqb b 42 (plain 0 (omega arith))

pub no_star : (text : List ℕ) → IsPlain text → list_any is_star text ≡ false
no_star [] plain = refl
no_star (b ∷ text) plain = λ i. first_plain b text plain i || no_star text (more_plain b text plain) i

pub has_star : (piece more : List ℕ) → list_any is_star (piece ++ 42 ∷ more) ≡ true
has_star [] more = refl
has_star (b ∷ piece) more = grind (arith, common_steps, has_star piece more)

-- ---- a piece at the front

pub begins_with : (front rest : List ℕ) → begins front (front ++ rest) ≡ true
begins_with front rest = (bytes_eq-Decides (take (length front) (front ++ rest)) front).1 (take-append_seam front rest)

pub begins_not : (front text : List ℕ) → ((rest : List ℕ) → text ≢ front ++ rest) → begins front text ≡ false
begins_not front text lacks =
    elim (cases_Bool (begins front text)) [
      | inl with ↦
          absurd (lacks (drop (length front) text)
          (sym (take-append-drop (length front) text) ∙ ap (λ t. t ++ drop (length front) text) ((bytes_eq-Decides (take (length front) text) front).0 with)))
      | inr without ↦ without
    ]

pub fits_front : (piece more text : List ℕ) → IsPlain piece → fits (piece ++ more) text ≡ cond (begins piece text) (fits more (drop (length piece) text)) false
fits_front [] more text plain = refl
fits_front (b ∷ piece) more [] plain = cond-false (is_star b) _ _ (first_plain b piece plain)
fits_front (b ∷ piece) more (t ∷ text) plain =
    let star = first_plain b piece plain in
    let rest = fits_front piece more text (more_plain b piece plain) in
    grind (arith, common_steps, cases_Bool, cond-true, cond-false)

-- a piece and a star: what is after the piece has the rest of the pattern somewhere
pub fits_there : (piece more text : List ℕ) → IsPlain piece → fits (piece ++ 42 ∷ more) (piece ++ text) ≡ any_end (fits more) text
fits_there piece more text plain =
    fits_front piece (42 ∷ more) (piece ++ text) plain ∙ cond-true _ _ _ (begins_with piece text) ∙ ap (any_end (fits more)) (drop-append_seam piece text)

pub fits_nowhere : (piece more text : List ℕ) → IsPlain piece → ((rest : List ℕ) → text ≢ piece ++ rest) → fits (piece ++ more) text ≡ false
fits_nowhere piece more text plain lacks = fits_front piece more text plain ∙ cond-false _ _ _ (begins_not piece text lacks)

-- ---- the ends of a text

pub any_none : (test : List ℕ → Bool) (text : List ℕ) → ((i : ℕ) → i ≤ length text → test (drop i text) ≡ false) → any_end test text ≡ false
any_none test [] none = none 0 (omega arith)
any_none test (b ∷ text) none = λ i. none 0 (omega arith) i || any_none test text (λ k below. none (suc k) (omega (arith, below))) i

-- what comes before an end passes the test nowhere, so it does not count
any_from : (test : List ℕ → Bool) (text : List ℕ) (i : ℕ) → i ≤ length text → ((k : ℕ) → k < i → test (drop k text) ≡ false) → any_end test text ≡ any_end test (drop i text)
any_from test text zero within none = refl
any_from test [] (suc i) within none = absurd (omega (arith, within))
any_from test (b ∷ text) (suc i) within none =
    (λ j. none 0 (omega arith) j || any_end test text) ∙ any_from test text i (omega (arith, within)) (λ k below. none (suc k) (omega (arith, below)))

any_here : (test : List ℕ → Bool) (text : List ℕ) → test text ≡ true → any_end test text ≡ true
any_here test [] is = is
any_here test (b ∷ text) is = λ i. is i || any_end test text

-- an end has no more ends than the text
any_less : (test : List ℕ → Bool) (text : List ℕ) (i : ℕ) → any_end test text ≡ false → any_end test (drop i text) ≡ false
any_less test text zero none = none
any_less test [] (suc i) none = none
any_less test (b ∷ text) (suc i) none = any_less test text i (or_parts (test (b ∷ text)) (any_end test text) none).1

-- only the text itself can pass the test
any_whole : (test : List ℕ → Bool) (text : List ℕ) → ((k : ℕ) → k < length text → test (drop (suc k) text) ≡ false) → any_end test text ≡ test text
any_whole test [] none = refl
any_whole test (b ∷ text) none = ap (λ more. test (b ∷ text) || more) (any_none test text (λ k below. none k (omega (arith, below)))) ∙ or-false (test (b ∷ text))

-- ---- a piece in a text

later : (is found : Bool) → found ≡ false → cond is found false ≡ false
later is found none = grind (arith, common_steps, cases_Bool, cond-true, cond-false)

drop_both : (n i : ℕ) (text : List ℕ) → drop n (drop i text) ≡ drop (n + i) text
drop_both n zero text = let same : n ≡ n + 0 = omega arith in ap (λ k. drop k text) same
drop_both n (suc i) [] = drop-nil n ∙ sym (drop-nil (n + suc i))
drop_both n (suc i) (b ∷ text) = let same : suc (n + i) ≡ n + suc i = omega arith in drop_both n i text ∙ ap (λ k. drop k (b ∷ text)) same

not_last : (pattern text : List ℕ) → list_any is_star pattern ≡ true → is_last pattern text ≡ false
not_last pattern text star = grind (arith, common_steps)

-- if the text begins with the piece, that is as good as any later one
piece_here : (piece more text : List ℕ) → IsPlain piece → any_end (fits (piece ++ 42 ∷ more)) (piece ++ text) ≡ any_end (fits more) text
piece_here piece more text plain =
    let whole = piece ++ text in
    let here = fits_there piece more text plain in
    elim (cases_Bool (any_end (fits more) text)) [
      | inl found ↦ any_here (fits (piece ++ 42 ∷ more)) whole (here ∙ found) ∙ sym found
      | inr none ↦
          any_none (fits (piece ++ 42 ∷ more)) whole
          (λ i within.
          fits_front piece (42 ∷ more) (drop i whole) plain
          ∙ later (begins piece (drop i whole)) (any_end (fits more) (drop (length piece) (drop i whole)))
          (ap (any_end (fits more)) (drop_both (length piece) i whole ∙ drop-append-add piece text i) ∙ any_less (fits more) text i none))
          ∙ sym none
    ]

pub piece_found : (pattern piece following text more : List ℕ) (i : ℕ) → pattern ≡ piece ++ 42 ∷ following → IsPlain piece → i ≤ length text →
    ((k : ℕ) → k < i → (rest : List ℕ) → drop k text ≢ piece ++ rest) → drop i text ≡ piece ++ more → any_end (fits pattern) text ≡ any_end (fits following) more
piece_found pattern piece following text more i is plain within lacks split =
    ap (λ p. any_end (fits p) text) is
    ∙ any_from (fits (piece ++ 42 ∷ following)) text i within (λ k below. fits_nowhere piece (42 ∷ following) (drop k text) plain (lacks k below))
    ∙ ap (any_end (fits (piece ++ 42 ∷ following))) split
    ∙ piece_here piece following more plain

pub piece_lacks : (pattern piece following text : List ℕ) → pattern ≡ piece ++ 42 ∷ following → IsPlain piece → ((k : ℕ) → k ≤ length text → (rest : List ℕ) → drop k text ≢ piece ++ rest) →
    any_end (fits pattern) text ≡ is_last pattern text
piece_lacks pattern piece following text is plain lacks =
    ap (λ p. any_end (fits p) text) is
    ∙ any_none (fits (piece ++ 42 ∷ following)) text (λ k within. fits_nowhere piece (42 ∷ following) (drop k text) plain (lacks k within))
    ∙ sym (not_last (piece ++ 42 ∷ following) text (has_star piece following))
    ∙ ap (λ p. is_last p text) (sym is)

-- ---- the last piece

fits_plain : (pattern text : List ℕ) → IsPlain pattern → fits pattern text ≡ bytes_eq text pattern
fits_plain [] [] plain = refl
fits_plain [] (t ∷ text) plain = refl
fits_plain (b ∷ pattern) [] plain = cond-false (is_star b) _ _ (first_plain b pattern plain)
fits_plain (b ∷ pattern) (t ∷ text) plain = cond-false (is_star b) _ _ (first_plain b pattern plain) ∙ ap (λ more. eqb t b && more) (fits_plain pattern text (more_plain b pattern plain))

either_way : (a b : List ℕ) → bytes_eq a b ≡ bytes_eq b a
either_way a b = grind (arith, common_steps, cases_Bool, bytes_eq-Decides)

-- what is not as long does not fit
other_length : (pattern text : List ℕ) → IsPlain pattern → length pattern ≢ length text → fits pattern text ≡ false
other_length pattern text plain differ =
    elim (cases_Bool (fits pattern text)) [
      | inl is ↦ absurd (differ (sym (ap length ((bytes_eq-Decides text pattern).0 (sym (fits_plain pattern text plain) ∙ is)))))
      | inr is_not ↦ is_not
    ]

at_end : (pattern text : List ℕ) → list_any is_star pattern ≡ false → is_last pattern text ≡ bytes_eq pattern (drop (length text - length pattern) text)
at_end pattern text plain = grind (arith, common_steps)

pub last_piece : (pattern text : List ℕ) → IsPlain pattern → any_end (fits pattern) text ≡ is_last pattern text
last_piece pattern text plain =
    let at : ℕ = length text - length pattern in
    let end = drop at text in
    any_from (fits pattern) text at (omega arith) (λ k below. other_length pattern (drop k text) plain (λ e. omega (arith, e, below, length-drop k text)))
    ∙ any_whole (fits pattern) end (λ k below. other_length pattern (drop (suc k) end) plain (λ e. omega (arith, e, below, length-drop (suc k) end, length-drop at text)))
    ∙ fits_plain pattern end plain
    ∙ either_way end pattern
    ∙ sym (at_end pattern text (no_star pattern plain))

-- ---- a whole pattern

pub pattern_plain : (pattern text : List ℕ) → IsPlain pattern → bytes_eq pattern text ≡ fits pattern text
pattern_plain pattern text plain = either_way pattern text ∙ sym (fits_plain pattern text plain)

pub pattern_there : (whole front pattern text rest : List ℕ) → whole ≡ front ++ 42 ∷ pattern → IsPlain front → text ≡ front ++ rest → any_end (fits pattern) rest ≡ fits whole text
pattern_there whole front pattern text rest is plain begin = sym (fits_there front pattern rest plain) ∙ (λ i. fits (sym is i) (sym begin i))

pub pattern_differs : (whole front pattern text : List ℕ) → whole ≡ front ++ 42 ∷ pattern → IsPlain front → ((rest : List ℕ) → text ≢ front ++ rest) → false ≡ fits whole text
pattern_differs whole front pattern text is plain lacks = sym (fits_nowhere front (42 ∷ pattern) text plain lacks) ∙ ap (λ p. fits p text) (sym is)
