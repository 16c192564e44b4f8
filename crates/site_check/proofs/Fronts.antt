-- A text that begins with another.
use Rattle.site_check.proofs.Prelude.{common_steps, ◌≡◌, ◌∙◌, ℕ, Bool, true, false, ◌||◌, List, [], ◌∷◌, ◌++◌, Option, Some, None, filter, length, map, take, drop, cond, refl, sym, ap, inl, inr, arith, cases_Bool, cond-true, cond-false, take-append-drop, bytes_eq-Decides, Bor, list_any, pointed, begins}
use Rattle.std.proofs.Math.Seq.{take-append_seam}

pub begins_with : (front url rest : List ℕ) → url ≡ front ++ rest → begins front url ≡ true
begins_with front url rest e = grind (arith, common_steps, bytes_eq-Decides, take-append_seam)

pub cut_front : (front url rest : List ℕ) (n : ℕ) → n ≡ length front → url ≡ front ++ drop n url → rest ≡ drop n url →
    rest ≡ cond (begins front url) (drop (length front) url) url
cut_front front url rest n count split is = grind (arith, common_steps, cond-true, begins_with)

pub no_front : (front url : List ℕ) → ((rest : List ℕ) → url ≡ front ++ rest → ⊥) → url ≡ cond (begins front url) (drop (length front) url) url
no_front front url lacks =
    elim (cases_Bool (begins front url)) [
      | inl with ↦
          absurd (lacks (drop (length front) url)
          (sym (take-append-drop (length front) url) ∙ ap (λ t. t ++ drop (length front) url) ((bytes_eq-Decides (take (length front) url) front).0 with)))
      | inr without ↦ sym (cond-false _ _ _ without)
    ]

-- what is left after a front, or nothing
pub front_after : (front url rest : List ℕ) (n : ℕ) → n ≡ length front → url ≡ front ++ drop n url → rest ≡ drop n url →
    Some rest ≡ cond (begins front url) (Some (drop (length front) url)) None
front_after front url rest n count split is = grind (arith, common_steps, cond-true, begins_with)

pub none_after : (front url : List ℕ) → ((rest : List ℕ) → url ≡ front ++ rest → ⊥) → None ≡ cond {A = Option (List ℕ)} (begins front url) (Some (drop (length front) url)) None
none_after front url lacks =
    elim (cases_Bool (begins front url)) [
      | inl with ↦
          absurd (lacks (drop (length front) url)
          (sym (take-append-drop (length front) url) ∙ ap (λ t. t ++ drop (length front) url) ((bytes_eq-Decides (take (length front) url) front).0 with)))
      | inr without ↦ sym (cond-false (begins front url) _ _ without)
    ]

-- a test of the texts that things have
pub any_text : {X : Type 0} (text : X → List ℕ) (p : List ℕ → Bool) (xs : List X) → list_any p (map text xs) ≡ list_any (λ x. p (text x)) xs
any_text text p [] = refl
any_text text p (x ∷ xs) = ap (λ b. p (text x) || b) (any_text text p xs)

kept_text : {X : Type 0} (text : X → List ℕ) (x : X) (xs : List X) (is : Bool) → map text (cond is (x ∷ xs) xs) ≡ cond is (text x ∷ map text xs) (map text xs)
kept_text text x xs true = refl
kept_text text x xs false = refl

pub texts_kept : {X : Type 0} (text : X → List ℕ) (p : List ℕ → Bool) (xs : List X) → map text (filter (λ x. p (text x)) xs) ≡ filter p (map text xs)
texts_kept text p [] = refl
texts_kept text p (x ∷ xs) = kept_text text x (filter (λ y. p (text y)) xs) (p (text x)) ∙ ap (λ l. cond (p (text x)) (text x ∷ l) l) (texts_kept text p xs)

-- what references point to passes if they do
pub any_pointed : {X : Type 0} (p : X → Bool) (xs : List (Bor X)) → list_any p (pointed xs) ≡ list_any (λ x. p x.now) xs
any_pointed p [] = refl
any_pointed p (x ∷ xs) = ap (λ b. p x.now || b) (any_pointed p xs)
