-- The first occurrence of a word, and a document after the end of a comment.
use Rattle.document_links.proofs.Prelude.{◌≡◌, ◌∙◌, ℕ, ◌<◌, ◌≤◌, ◌+◌, ◌||◌, Bool, true, false, cond, List, [], ◌∷◌, ◌++◌, length, length-take, take, take-append-drop, drop, Option, None, Some, refl, sym, ap, arith, cond-true, cond-false, cases_Bool, false_from_ne_true}
use Rattle.std.proofs.Common.{◌&&◌, zero, suc, ⊎_elim, codes}
use Rattle.std.proofs.lemmas.Slice.Eq.{bytes_eq-Decides}
use Rattle.memchr.specs.Find.{FindsNeedle, OccursAt}
use Rattle.memchr.proofs.lemmas.MatchLemmas.{OccursAt-part, OccursAt-from_part}
use Rattle.document_links.specs.Markup.{begins}
use Rattle.document_links.specs.Sniffing.{after_blanks, begins_document, ends_before_document}
use Rattle.document_links.specs.Starts.{after_word}

here : (word text : List ℕ) → OccursAt text word 0 → begins word text ≡ true
here word text at = (bytes_eq-Decides word (take (length word) text)).1 (sym (OccursAt-part text word 0 at))

not_here : (word text : List ℕ) → length word ≤ length text → begins word text ≡ true → OccursAt text word 0
not_here word text fits is = OccursAt-from_part text word 0 (omega arith) (sym ((bytes_eq-Decides word (take (length word) text)).0 is))

begins_fits : (word text : List ℕ) → begins word text ≡ true → length word ≤ length text
begins_fits word text is = omega (arith, ap length ((bytes_eq-Decides word (take (length word) text)).0 is), length-take (length word) text)

later : (word : List ℕ) (b k : ℕ) (text : List ℕ) → OccursAt (b ∷ text) word (suc k) → OccursAt text word k
later word b k text at = OccursAt-from_part text word k (omega (arith, at.fits)) (OccursAt-part (b ∷ text) word (suc k) at)

earlier : (word : List ℕ) (b k : ℕ) (text : List ℕ) → OccursAt text word k → OccursAt (b ∷ text) word (suc k)
earlier word b k text at = OccursAt-from_part (b ∷ text) word (suc k) (omega (arith, at.fits)) (OccursAt-part text word k at)

missed : (word text : List ℕ) → (OccursAt text word 0 → ⊥) → begins word text ≡ false
missed word text none = false_from_ne_true (begins word text) (λ is. none (not_here word text (begins_fits word text is) is))

pub found_word : (word text : List ℕ) (k : ℕ) → 0 < length word → OccursAt text word k → ((j : ℕ) → j < k → OccursAt text word j → ⊥) → after_word word text ≡ Some (drop (k + length word) text)
found_word word [] k some at before = absurd (omega (arith, at.fits))
found_word word (b ∷ text) zero some at before =
    let count : 0 + length word ≡ length word = omega arith in
    cond-true (begins word (b ∷ text)) _ _ (here word (b ∷ text) at) ∙ sym (ap (λ n. Some (drop n (b ∷ text))) count)
found_word word (b ∷ text) (suc k) some at before =
    let count : suc k + length word ≡ suc (k + length word) = omega arith in
    cond-false (begins word (b ∷ text)) _ _ (missed word (b ∷ text) (before 0 (omega arith)))
    ∙ found_word word text k some (later word b k text at) (λ j less is. before (suc j) (omega arith) (earlier word b j text is))
    ∙ sym (ap (λ n. Some (drop n (b ∷ text))) count)

pub no_word : (word text : List ℕ) → ((j : ℕ) → j < length text → OccursAt text word j → ⊥) → after_word word text ≡ None
no_word word [] none = refl
no_word word (b ∷ text) none =
    cond-false (begins word (b ∷ text)) _ _ (missed word (b ∷ text) (none 0 (omega arith)))
    ∙ no_word word text (λ j less is. none (suc j) (omega arith) (earlier word b j text is))

pub first_word : (word text : List ℕ) (k : ℕ) → 0 < length word → FindsNeedle text word 0 (Some k) → after_word word text ≡ Some (drop (k + length word) text)
first_word word text k some found = found_word word text k some found.1 (λ j less is. found.0.before j (omega arith) less is)

pub nowhere : (word text : List ℕ) → FindsNeedle text word 0 None → after_word word text ≡ None
nowhere word text none = no_word word text (λ j less is. none j (omega arith) (omega arith) is)

-- ---- the ends of comments

-- a text that begins with `-->`
pub ending : (text : List ℕ) → begins (codes "-->") text ≡ true → text ≡ 45 ∷ 45 ∷ 62 ∷ drop 3 text
ending text is =
    let front : 45 ∷ 45 ∷ 62 ∷ [] ≡ take 3 text = (bytes_eq-Decides (codes "-->") (take 3 text)).0 is in
    sym (take-append-drop 3 text) ∙ ap (λ l. l ++ drop 3 text) (sym front)

-- in which no other one begins
inside : (rest : List ℕ) → ends_before_document (45 ∷ 62 ∷ rest) ≡ ends_before_document rest
inside rest = refl

none_at : (is opens ends : Bool) (after : List ℕ) (rest : Option (List ℕ)) → cond is (Some after) rest ≡ None → (rest ≡ None → ends ≡ false) → (is && opens) || ends ≡ false
none_at true opens ends after rest none more = absurd (cc)
none_at false opens ends after rest none more = more none

pub no_end : (text : List ℕ) → after_word (codes "-->") text ≡ None → ends_before_document text ≡ false
no_end [] none = refl
no_end (b ∷ text) none =
    none_at (begins (codes "-->") (b ∷ text)) (begins_document (after_blanks (drop 2 text))) (ends_before_document text) (drop 2 text) (after_word (codes "-->") text) none (no_end text)

pub next_end : (text rest : List ℕ) → after_word (codes "-->") text ≡ Some rest → ends_before_document text ≡ (begins_document (after_blanks rest) || ends_before_document rest)
next_end [] rest is = absurd (cc)
next_end (b ∷ text) rest is =
    let ends : Bool = begins (codes "-->") (b ∷ text) in
    let opens : Bool = begins_document (after_blanks (drop 2 text)) in
    ⊎_elim (λ (t : ends ≡ true).
    let found : Some (drop 2 text) ≡ Some rest = sym (cond-true ends (Some (drop 2 text)) (after_word (codes "-->") text) t) ∙ is in
    let same : drop 2 text ≡ rest = cc in
    let whole : b ∷ text ≡ 45 ∷ 45 ∷ 62 ∷ drop 2 text = ending (b ∷ text) t in
    let tail : text ≡ 45 ∷ 62 ∷ drop 2 text = cc in
    ap (λ s. (s && opens) || ends_before_document text) t
    ∙ ap (λ e. opens || e) (ap ends_before_document tail ∙ inside (drop 2 text))
    ∙ ap (λ r. begins_document (after_blanks r) || ends_before_document r) same)
    (λ (f : ends ≡ false).
    ap (λ s. (s && opens) || ends_before_document text) f
    ∙ next_end text rest (sym (cond-false ends (Some (drop 2 text)) (after_word (codes "-->") text) f) ∙ is))
    (cases_Bool ends)
