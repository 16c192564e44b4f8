-- Text with references, over runs of bytes.
use Rattle.document_links.proofs.Prelude.{◌≡◌, ◌∙◌, ℕ, ◌==◌, not, List, [], ◌∷◌, ◌++◌, refl, sym, ap, arith, cond-true, cond-false, cases_Bool}
use Rattle.std.proofs.Common.{append-nil}
use Rattle.html_links.specs.Shown.{Stopped, following, front}
use Rattle.html_links.proofs.Sources.{front_all}
use Rattle.document_links.proofs.Runs.{both_fail, collects_run}
use Rattle.document_links.specs.Unescaped.{Reference, in_reference, meaning_of, unescaped, unescaped_from}

-- a run of bytes before an `&`
pub plain_run : (bytes : List ℕ) → unescaped bytes ≡ front (λ b. not (b == 38)) bytes ++ unescaped (following (λ b. not (b == 38)) bytes)
plain_run [] = refl
plain_run (b ∷ bytes) = grind (arith, cases_Bool, cond-true, cond-false, plain_run bytes)

pub all_plain : (bytes : List ℕ) → following (λ b. not (b == 38)) bytes ≡ [] → unescaped bytes ≡ bytes
all_plain bytes none = plain_run bytes ∙ ap (λ more. front (λ b. not (b == 38)) bytes ++ unescaped more) none ∙ append-nil (front (λ b. not (b == 38)) bytes) ∙ front_all (λ b. not (b == 38)) bytes none

pub to_reference : (bytes plain opened : List ℕ) → plain ≡ front (λ b. not (b == 38)) bytes → 38 ∷ opened ≡ following (λ b. not (b == 38)) bytes → unescaped bytes ≡ plain ++ unescaped_from (Reference []) opened
to_reference bytes plain opened before here = grind (arith, plain_run)

-- a run of bytes in a reference
reference_run : (name bytes : List ℕ) → unescaped_from (Reference name) bytes ≡ unescaped_from (Reference (name ++ front in_reference bytes)) (following in_reference bytes)
reference_run =
    collects_run (λ name bytes. unescaped_from (Reference name) bytes) in_reference
    (λ name b bytes inside. both_fail (b == 59) (b == 38) (meaning_of name ++ unescaped bytes) ((38 ∷ name) ++ unescaped_from (Reference []) bytes) (unescaped_from (Reference (name ++ b ∷ [])) bytes) inside)

pub closed : (bytes name more rest : List ℕ) → name ≡ front in_reference bytes → more ≡ following in_reference bytes → more ≡ 59 ∷ rest →
    unescaped_from (Reference []) bytes ≡ meaning_of name ++ unescaped rest
closed bytes name more rest before after is =
    reference_run [] bytes ∙ ap (λ n. unescaped_from (Reference n) (following in_reference bytes)) (sym before) ∙ ap (unescaped_from (Reference name)) (sym after ∙ is)

pub ended : (name more : List ℕ) → Stopped in_reference more → Stopped (λ b. b == 59) more → unescaped_from (Reference name) more ≡ (38 ∷ name) ++ unescaped more
ended name [] stopped other = sym (append-nil (38 ∷ name))
ended name (b ∷ more) stopped other = grind (arith, cases_Bool, cond-true, cond-false)

pub unclosed : (bytes name more : List ℕ) → name ≡ front in_reference bytes → more ≡ following in_reference bytes → Stopped in_reference more → Stopped (λ b. b == 59) more →
    unescaped_from (Reference []) bytes ≡ (38 ∷ name) ++ unescaped more
unclosed bytes name more before after stopped other =
    reference_run [] bytes ∙ ap (λ n. unescaped_from (Reference n) (following in_reference bytes)) (sym before) ∙ ap (unescaped_from (Reference name)) (sym after) ∙ ended name more stopped other
