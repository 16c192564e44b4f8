-- The machine of a script's text, and its first state over a run.
use Rattle.html_links.proofs.Prelude.{◌≡◌, ℕ, ◌+◌, ◌<◌, ◌≤◌, ◌==◌, not, List, [], ◌∷◌, length, None, Some, refl, ap, sym, ◌∙◌, arith, cond-false, not-true, following}
use Rattle.html_links.specs.declared.script.State.{State}
use Rattle.html_links.specs.declared.script.State.TheVariants.{Text, LessThan}
use Rattle.html_links.specs.declared.script.Next.{Next}
use Rattle.html_links.specs.Script.{step, follow, run}
use Rattle.html_links.proofs.Jumps.{shorter}

pub to_less : (bytes : List ℕ) → run Text bytes ≡ run Text (following (λ c. not (c == 60)) bytes)
to_less [] = refl
to_less (c ∷ rest) = grind (arith, cond-false, not-true, to_less rest)

pub read_less : (bytes opened : List ℕ) → 60 ∷ opened ≡ following (λ c. not (c == 60)) bytes → run Text bytes ≡ run LessThan opened
read_less bytes opened cut = to_less bytes ∙ ap (run Text) (sym cut)

pub read_no_less : (bytes : List ℕ) → following (λ c. not (c == 60)) bytes ≡ [] → run Text bytes ≡ None
read_no_less bytes none = to_less bytes ∙ ap (run Text) none

left_at : (c : ℕ) (next : Next) (rest here : List ℕ) → ((s : State) → run s rest ≡ Some here → length here ≤ length rest) → follow next (λ s. run s rest) (c ∷ rest) ≡ Some here → length here ≤ length rest + 1
left_at c next rest here later e = grind arith

pub left : (s : State) (bytes here : List ℕ) → run s bytes ≡ Some here → length here ≤ length bytes
left s [] here e = absurd (cc)
left s (c ∷ rest) here e = let le : length here ≤ length rest + 1 = left_at c (step s c) rest here (λ s e. left s rest here e) e in omega arith

pub cut : (s : State) (bytes : List ℕ) → bytes ≡ [] → run s bytes ≡ None
cut s bytes none = ap (run s) none

pub opened_less : (bytes opened : List ℕ) → 60 ∷ opened ≡ following (λ c. not (c == 60)) bytes → length opened < length bytes
opened_less bytes opened is =
    let same : length (60 ∷ opened) ≡ length (following (λ c. not (c == 60)) bytes) = ap length is in
    let le : length (following (λ c. not (c == 60)) bytes) ≤ length bytes = shorter (λ c. not (c == 60)) bytes in
    omega arith
