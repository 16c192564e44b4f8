-- Markup: the first occurrence of a word, and the values of a tag one after another.
use Rattle.document_links.proofs.Prelude.{◌≡◌, ◌∙◌, ℕ, ◌≤◌, ◌==◌, true, not, cond, List, [], ◌∷◌, ◌++◌, length, drop, Option, None, Some, refl, sym, ap, arith, cond-true, cond-false, cases_Bool}
use Rattle.std.specs.Str.{bytes_eq}
use Rattle.std.specs.Option.{unwrap_or}
use Rattle.memchr.specs.Find.{FindsNeedle, first_of, matches}
use Rattle.memchr.proofs.lemmas.ValueLemmas.{FindsNeedle-value}
use Rattle.html_links.specs.Shown.{following, front}
use Rattle.document_links.specs.Markup.{at_value, is_quote, is_unquoted, name_before}
use Rattle.document_links.proofs.Runs.{collects_run, fails}

pub first_match : (word bytes : List ℕ) (r : Option ℕ) → FindsNeedle bytes word 0 r → unwrap_or r (length bytes) ≡ unwrap_or (first_of (matches bytes word 0)) (length bytes)
first_match word bytes r found = ap (λ o. unwrap_or o (length bytes)) (FindsNeedle-value bytes word r found)

pub match_within : (word bytes : List ℕ) (r : Option ℕ) → FindsNeedle bytes word 0 r → unwrap_or r (length bytes) ≤ length bytes
match_within word bytes None found = omega arith
match_within word bytes (Some k) found = omega (arith, found.0.high)

-- ---- values

-- bytes outside of quotes are kept
since_run : {X : Type 0} (found : ℕ → List ℕ → X) (none : X) (name since bytes : List ℕ) → at_value found none name 0 since bytes ≡ at_value found none name 0 (since ++ front is_unquoted bytes) (following is_unquoted bytes)
since_run found none name = collects_run (at_value found none name 0) is_unquoted (λ since b bytes inside. fails (is_quote b) _ _ inside)

-- and those inside are skipped
quote_run : {X : Type 0} (found : ℕ → List ℕ → X) (none : X) (name : List ℕ) (quote : ℕ) (bytes : List ℕ) → is_quote quote ≡ true →
    at_value found none name quote [] bytes ≡ at_value found none name 0 [] (drop 1 (following (λ b. not (b == quote)) bytes))
quote_run found none name quote [] is = refl
quote_run found none name quote (b ∷ bytes) is = grind (arith, cases_Bool, cond-true, cond-false, quote_run found none name quote bytes is)

pub no_value : {X : Type 0} (found : ℕ → List ℕ → X) (none : X) (name bytes : List ℕ) → following is_unquoted bytes ≡ [] → at_value found none name 0 [] bytes ≡ none
no_value found none name bytes nothing = since_run found none name [] bytes ∙ ap (λ more. at_value found none name 0 (front is_unquoted bytes) more) nothing

pub next_value : {X : Type 0} (found : ℕ → List ℕ → X) (none : X) (name bytes since inner more : List ℕ) (quote : ℕ) → since ≡ front is_unquoted bytes → quote ∷ inner ≡ following is_unquoted bytes → is_quote quote ≡ true →
    more ≡ drop 1 (following (λ b. not (b == quote)) inner) →
    at_value found none name 0 [] bytes ≡ cond (bytes_eq (name_before since) name) (found quote inner) (at_value found none name 0 [] more)
next_value found none name bytes since inner more quote before here is after =
    since_run found none name [] bytes ∙ ap (λ l. at_value found none name 0 l (following is_unquoted bytes)) (sym before) ∙ ap (at_value found none name 0 since) (sym here)
    ∙ cond-true (is_quote quote) _ _ is
    ∙ ap (cond (bytes_eq (name_before since) name) (found quote inner)) (quote_run found none name quote inner is ∙ ap (at_value found none name 0 []) (sym after))
