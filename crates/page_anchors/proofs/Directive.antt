-- The bytes before a fragment directive, one by one.
use Rattle.page_anchors.proofs.Prelude.{◌≡◌, ℕ, ◌+◌, ◌-◌, ◌<◌, false, List, [], ◌∷◌, ◌++◌, length, take, drop, get_or, length-drop, arith, sym, ap, ◌∙◌, if◌then◌else◌, append_assoc, drop_more, take_more, take_all, before_directive, begins_directive}

-- the rest of the bytes, up to the end
pub whole_rest : (text : List ℕ) (i : ℕ) → take (length text - i) (drop i text) ≡ drop i text
whole_rest text i = take_all (length text - i) (drop i text) (omega (arith, length-drop i text))

-- one more byte, at which no directive begins
pub directive_more : (text : List ℕ) (i : ℕ) → i < length text → begins_directive (drop i text) ≡ false → before_directive text ≡ take i text ++ before_directive (drop i text) → before_directive text ≡ take (i + 1) text ++ before_directive (drop (i + 1) text)
directive_more text i below begins before =
    let b = get_or text i 0 in
    let rest = drop (i + 1) text in
    let here : drop i text ≡ b ∷ rest = drop_more text i 0 below in
    let none : begins_directive (b ∷ rest) ≡ false = ap begins_directive (sym here) ∙ begins in
    before
    ∙ ap (λ t. take i text ++ before_directive t) here
    ∙ ap (λ q. take i text ++ (if q then [] else b ∷ before_directive rest)) none
    ∙ sym (append_assoc (take i text) (b ∷ []) (before_directive rest)) ∙ ap (λ t. t ++ before_directive rest) (sym (take_more text i 0 below))
