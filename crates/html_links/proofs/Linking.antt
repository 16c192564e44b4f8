-- The keywords of a `rel` over runs of bytes.
use Rattle.html_links.proofs.Prelude.{◌≡◌, ℕ, Bool, true, false, not, cond, List, [], ◌∷◌, ◌++◌, refl, ap, sym, ◌∙◌, append_assoc, append-nil, arith, not-false, cond-false, not-true, front, following, is_space, is_unspaced, is_link_type, types_after}
use Rattle.html_links.proofs.Jumps.{stopped}

-- the keywords of a `rel`

type_at : (b : Bool) (word : List ℕ) (c : ℕ) (rest some more : List ℕ) → (not b ≡ true → types_after word (c ∷ rest) ≡ types_after (word ++ c ∷ []) rest) →
    types_after (word ++ c ∷ []) rest ≡ types_after ((word ++ c ∷ []) ++ some) more →
    types_after word (c ∷ rest) ≡ types_after (word ++ cond (not b) (c ∷ some) []) (cond (not b) more (c ∷ rest))
type_at false word c rest some more stays later = stays refl ∙ later ∙ ap (λ w. types_after w more) (append_assoc word (c ∷ []) some)
type_at true word c rest some more stays later = ap (λ w. types_after w (c ∷ rest)) (sym (append-nil word))

pub type_run : (word bytes : List ℕ) → types_after word bytes ≡ types_after (word ++ front is_unspaced bytes) (following is_unspaced bytes)
type_run word [] = ap (λ w. types_after w []) (sym (append-nil word))
type_run word (c ∷ rest) =
    type_at (is_space c) word c rest (front is_unspaced rest) (following is_unspaced rest)
    (λ e. cond-false (is_space c) (cond (is_link_type word) true (types_after [] rest)) (types_after (word ++ c ∷ []) rest) (not-true (is_space c) e)) (type_run (word ++ c ∷ []) rest)

pub found_type : (rest word spaced : List ℕ) → word ≡ front is_unspaced rest → is_link_type word ≡ true → types_after [] rest ≡ true
found_type rest word spaced some is = grind (arith, type_run, stopped, not-false)

pub next_word : (rest word spaced left : List ℕ) (c : ℕ) → word ≡ front is_unspaced rest → spaced ≡ following is_unspaced rest → is_link_type word ≡ false → spaced ≡ c ∷ left →
    types_after [] rest ≡ types_after [] left
next_word rest word spaced left c some more is cut = grind (arith, type_run, stopped, not-false)
