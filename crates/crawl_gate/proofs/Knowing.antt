-- When a seat knows that the gate is closed, after it has read one more word.
use Rattle.crawl_gate.proofs.Prelude.{◌≡◌, ◌⊎◌, ℕ, Bool, true, false, true≢false, List, [], ◌∷◌, ◌++◌, sym, refl, subst, inl, inr, arith, ◌||◌, View, StepKind, Word, Met, any_closed, knows_closed, view_meeting}

any_closed-before : (ms : List Met) (kind : StepKind) (x : Word) → any_closed (ms ++ (kind, x) ∷ []) ≡ true → (any_closed ms ≡ true) ⊎ (x.1 ≡ true)
any_closed-before [] kind (n, true) e = inr refl
any_closed-before [] kind (n, false) e = absurd (true≢false (sym e))
any_closed-before ((k, (m, true)) ∷ ms) kind x e = inl refl
any_closed-before ((k, (m, false)) ∷ ms) kind x e = any_closed-before ms kind x e

any_closed-still : (ms : List Met) (kind : StepKind) (x : Word) → any_closed ms ≡ true → any_closed (ms ++ (kind, x) ∷ []) ≡ true
any_closed-still [] kind x e = absurd (true≢false (sym e))
any_closed-still ((k, (m, true)) ∷ ms) kind x e = refl
any_closed-still ((k, (m, false)) ∷ ms) kind x e = any_closed-still ms kind x e

any_closed-last : (ms : List Met) (kind : StepKind) (n : ℕ) → any_closed (ms ++ (kind, (n, true)) ∷ []) ≡ true
any_closed-last [] kind n = refl
any_closed-last ((k, (m, true)) ∷ ms) kind n = refl
any_closed-last ((k, (m, false)) ∷ ms) kind n = any_closed-last ms kind n

last : (closed : Bool) (ms : List Met) (kind : StepKind) (n : ℕ) → (closed || any_closed (ms ++ (kind, (n, true)) ∷ [])) ≡ true
last closed ms kind n = grind (arith, any_closed-last)

-- it knew before, or the word is closed
pub knows_closed-before : (v : View) (kind : StepKind) (x : Word) → knows_closed (view_meeting v kind x) ≡ true → (knows_closed v ≡ true) ⊎ (x.1 ≡ true)
knows_closed-before v kind x e = grind (arith, any_closed-before)

-- a seat that knew it still knows it
pub knows_closed-still : (v : View) (kind : StepKind) (x : Word) → knows_closed v ≡ true → knows_closed (view_meeting v kind x) ≡ true
knows_closed-still v kind x e = grind (arith, any_closed-still)

-- a seat that reads a closed word knows it
pub knows_closed-last : (v : View) (kind : StepKind) (x : Word) → x.1 ≡ true → knows_closed (view_meeting v kind x) ≡ true
knows_closed-last v kind x e = subst (λ (b : Bool). knows_closed (view_meeting v kind (x.0, b)) ≡ true) (sym e) (last v.closed_gate v.met kind x.0)
