-- Definitions over runs of bytes, and loops that append what they read.
use Rattle.document_links.proofs.Prelude.{◌≡◌, ◌∙◌, ℕ, Bool, true, false, not, cond, List, [], ◌∷◌, ◌++◌, ◌||◌, refl, sym, ap, true≢false}
use Rattle.std.proofs.Common.{append-nil, append_assoc}
use Rattle.html_links.specs.Shown.{following, front}

run_at : {X : Type 0} (reads : List ℕ → List ℕ → X) (inside : Bool) (so_far : List ℕ) (b : ℕ) (bytes some more : List ℕ) →
    (inside ≡ true → reads so_far (b ∷ bytes) ≡ reads (so_far ++ b ∷ []) bytes) → reads (so_far ++ b ∷ []) bytes ≡ reads ((so_far ++ b ∷ []) ++ some) more →
    reads so_far (b ∷ bytes) ≡ reads (so_far ++ cond inside (b ∷ some) []) (cond inside more (b ∷ bytes))
run_at reads true so_far b bytes some more stays later = stays refl ∙ later ∙ ap (λ l. reads l more) (append_assoc so_far (b ∷ []) some)
run_at reads false so_far b bytes some more stays later = ap (λ l. reads l (b ∷ bytes)) (sym (append-nil so_far))

-- a definition that collects one byte that passes a test collects a run of such bytes
pub collects_run : {X : Type 0} (reads : List ℕ → List ℕ → X) (test : ℕ → Bool) →
    ((so_far : List ℕ) (b : ℕ) (bytes : List ℕ) → test b ≡ true → reads so_far (b ∷ bytes) ≡ reads (so_far ++ b ∷ []) bytes) →
    (so_far bytes : List ℕ) → reads so_far bytes ≡ reads (so_far ++ front test bytes) (following test bytes)
collects_run reads test stays so_far [] = ap (λ l. reads l []) (sym (append-nil so_far))
collects_run reads test stays so_far (b ∷ bytes) =
    run_at reads (test b) so_far b bytes (front test bytes) (following test bytes) (stays so_far b bytes) (collects_run reads test stays (so_far ++ b ∷ []) bytes)

-- the last of several cases, if the tests before it fail

pub fails : {X : Type 0} (x : Bool) (a b : X) → not x ≡ true → cond x a b ≡ b
fails true a b is = absurd (true≢false (sym is))
fails false a b is = refl

pub both_fail : {X : Type 0} (x y : Bool) (a b c : X) → not (x || y) ≡ true → cond x a (cond y b c) ≡ c
both_fail true y a b c is = absurd (true≢false (sym is))
both_fail false true a b c is = absurd (true≢false (sym is))
both_fail false false a b c is = refl

-- what is appended is a part of what remained
pub appended : {X : Type 0} (old new part left more all : List X) → new ≡ old ++ part → left ≡ part ++ more → old ++ left ≡ all → new ++ more ≡ all
appended old new part left more all wrote reads so_far = ap (λ l. l ++ more) wrote ∙ append_assoc old part more ∙ ap (λ l. old ++ l) (sym reads) ∙ so_far

-- and is all of it
pub appended_last : {X : Type 0} (old new part left all : List X) → new ≡ old ++ part → left ≡ part → old ++ left ≡ all → new ≡ all
appended_last old new part left all wrote reads so_far = wrote ∙ ap (λ l. old ++ l) (sym reads) ∙ so_far
