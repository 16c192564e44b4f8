-- What is after the origin of a URL.
use Rattle.site_check.proofs.Prelude.{◌≡◌, ◌∙◌, ℕ, true, List, ◌++◌, drop, length, Option, Some, None, sym, ap, arith, option_map, take, take-append-drop, cases_Bool, cond-false, cond-true, bytes_eq-Decides}
use Rattle.std.proofs.Common.{inl, inr}
use Rattle.std.proofs.lemmas.List.{take-append-le, take_all}
use Rattle.std.proofs.lemmas.List.Prefix.{front_rest}
use Rattle.std.specs.Borrow.{Bor}
use Rattle.std.specs.Option.{MatchOption}
use Rattle.std.specs.Str.Pattern.{FindsTextPrefix, StripsPrefix}
use Rattle.site_files.specs.Below.{begins}
use Rattle.site_files.specs.Server.{after_front}

-- a text that begins with a front is the front and what is after it
begun : (front text : List ℕ) → begins front text ≡ true → text ≡ front ++ drop (length front) text
begun front text is = sym (take-append-drop (length front) text) ∙ ap (λ l. l ++ drop (length front) text) ((bytes_eq-Decides (take (length front) text) front).0 is)

begins_so : (front text rest : List ℕ) → text ≡ front ++ rest → begins front text ≡ true
begins_so front text rest is =
    (bytes_eq-Decides (take (length front) text) front).1
    (ap (take (length front)) is ∙ take-append-le (length front) front rest (omega (arith)) ∙ take_all (length front) front (omega (arith)))

-- what `strip_prefix` finds is what is after the front
pub path_after : (origin url : List ℕ) (r : Option (Bor (List ℕ))) → MatchOption r (FindsTextPrefix origin url None) (λ x. StripsPrefix (FindsTextPrefix origin) url x.now) → option_map (λ x. x.now) r ≡ after_front origin url
path_after origin url None lacks =
    sym (cond-false (begins origin url) _ _ (elim (cases_Bool (begins origin url)) [ inl is ↦ absurd (lacks (drop (length origin) url) (begun origin url is)) | inr not ↦ not ]))
path_after origin url (Some path) is =
    let split : url ≡ origin ++ path.now = is.1.1 ∙ ap (λ l. origin ++ l) (sym is.2) in
    ap Some (sym (front_rest url origin path.now split)) ∙ sym (cond-true (begins origin url) _ _ (begins_so origin url path.now split))
